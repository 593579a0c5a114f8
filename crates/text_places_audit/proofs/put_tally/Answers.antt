use Rattle.text.proofs.Texts.{then}
use Rattle.text_places_audit.specs.Audit.{tally_line}
use borrow.Author.Rules.{rules}
use Rattle.text_places_audit.proofs.put_tally.Goals as goal

pub returns : goal.returns
unfolding tally_line
returns c = record { upper_bound = search rules; written = then (then c.put_faults-end.ensures.written c.put_count-end.ensures.written) c.put.ensures.written }
