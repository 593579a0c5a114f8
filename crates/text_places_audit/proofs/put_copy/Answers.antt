use Rattle.text.proofs.Texts.{then}
use Rattle.text_places_audit.specs.Audit.{copy_line}
use borrow.Author.Rules.{rules}
use Rattle.text_places_audit.proofs.put_copy.Goals as goal

pub returns : goal.returns
unfolding copy_line
returns c = record { upper_bound = search rules; written = then (then (then c.put_where-end.ensures.written c.put-end.ensures.written) c.put_where-end-2.ensures.written) c.put.ensures.written }
