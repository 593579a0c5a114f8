use Rattle.text_places.specs.Lines.{counts_line}
use Rattle.text.proofs.Texts.{then}
use borrow.Author.Rules.{rules}
use Rattle.text_places.proofs.put_counts.Goals as goal

pub returns : goal.returns
unfolding counts_line
returns c = record { upper_bound = search rules; written = then (then (then c.put_count-end.ensures.written c.put_count-end-2.ensures.written) c.put_count-end-3.ensures.written) c.put.ensures.written }
