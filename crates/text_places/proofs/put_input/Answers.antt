use Rattle.text.proofs.Texts.{said}
use Rattle.text_places.proofs.Whole as whole
use borrow.Author.Rules.{rules}
use Rattle.text_places.proofs.put_input.Goals as goal

pub returns-then-input-eq0 : goal.returns-then-input-eq0
returns-then-input-eq0 c = record { upper_bound = search rules; written = said c.put_listing.ensures.written (whole.no_input c.args.input.now c.if-input-eq0.true) }

pub returns : goal.returns
returns c = record { upper_bound = search rules; written = said c.put_listing-2.ensures.written (whole.rest_input c.args.input.now) }
