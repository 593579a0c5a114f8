use Rattle.text_infinities.specs.Infinities.{counts_line}
use Rattle.text.proofs.Texts.{then}
use borrow.Author.Rules.{rules}
use Rattle.text_infinities.proofs.put_counts.Goals as goal

pub returns : goal.returns
unfolding counts_line
returns c = record { upper_bound = search rules; written = then (then c.put_count-end.ensures.written c.put_count-end-2.ensures.written) c.put.ensures.written }
