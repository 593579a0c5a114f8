-- `run_write::number_in` meets its contract. Assumes nothing.
use borrow.Author.Rules.{rules}
use Rattle.run_write.proofs.Bytes.{at_byte, at_endpoint, at_last}
use Rattle.run_write.proofs.number_in.Goals as goal

pub returns-then-k-lt2 : goal.returns-then-k-lt2
returns-then-k-lt2 c = at_byte _ _ (search rules) c.from.ensures

pub returns-then-k-lt14 : goal.returns-then-k-lt14
returns-then-k-lt14 c = at_endpoint _ _ (search rules) (search rules) c.u16_at.ensures

pub returns : goal.returns
returns c = at_last _ _ (search rules) (search rules) c.from-2.ensures
