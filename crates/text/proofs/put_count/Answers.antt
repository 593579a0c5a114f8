use Rattle.text.proofs.Texts.{then}
use borrow.Author.Rules.{rules}
use Rattle.text.proofs.put_count.Goals as goal

pub returns : goal.returns
returns c = record { upper_bound = search rules; written = then c.put-end.ensures.written c.put_decimal.ensures.written }
