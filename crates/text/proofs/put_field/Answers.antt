use Rattle.text.proofs.Texts.{then}
use Rattle.text.specs.Text.{field}
use borrow.Author.Rules.{rules}
use Rattle.text.proofs.put_field.Goals as goal

pub returns : goal.returns
unfolding field
returns c = record { upper_bound = search rules; written = then c.put_decimal-end.ensures.written c.put.ensures.written }
