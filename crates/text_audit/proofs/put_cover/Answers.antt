use borrow.Author.Rules.{rules}
use Rattle.text.proofs.Texts.{said}
use Rattle.text_audit.specs.Audit.{cover_word}
use Rattle.text_audit.proofs.put_cover.Goals as goal

pub returns-then-covered : goal.returns-then-covered
unfolding cover_word
returns-then-covered c = record { upper_bound = search rules; written = said c.put.ensures.written (rw c.if-covered.true) }

pub returns : goal.returns
unfolding cover_word
returns c = record { upper_bound = search rules; written = said c.put-2.ensures.written (rw c.if-covered.false) }
