use Rattle.text.specs.Text.{refusal_line}
use Rattle.text.proofs.Texts.{then}
use borrow.Author.Rules.{rules}
use Rattle.text.proofs.put_refusal.Goals as goal

pub returns : goal.returns
unfolding refusal_line
returns c = record { upper_bound = search rules; written = then c.put_count-end.ensures.written c.put.ensures.written }
