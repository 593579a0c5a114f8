-- `bc6_writer::place_value` meets its contract. Assumes nothing.
use borrow.Author.Rules.{rules}
use Rattle.bc6_writer.proofs.Scattering.{at_mode, at_partition, at_endpoint}
use Rattle.bc6_writer.proofs.place_value.Goals as goal

pub returns-then-place-eq12 : goal.returns-then-place-eq12
returns-then-place-eq12 c = at_mode _ _ (search rules) c.mode_code.ensures

pub returns-then-place-eq13 : goal.returns-then-place-eq13
returns-then-place-eq13 c = at_partition _ _ (search rules)

pub returns : goal.returns
returns c = at_endpoint _ _ (search rules) (search rules)
