use Rattle.text.proofs.Texts.{then}
use Rattle.text_clean.specs.CleanText.{counts_line}
use borrow.Author.Rules.{rules}
use Rattle.text_clean.proofs.put_counts.Goals as goal

pub returns : goal.returns
unfolding counts_line
returns c = record { upper_bound = search rules; written = then (then c.put_count-end.ensures.written c.put_count-end-2.ensures.written) c.put.ensures.written }
