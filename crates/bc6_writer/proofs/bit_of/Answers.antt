-- `bc6_writer::bit_of` meets its contract. Assumes nothing.
use mathlib.Core.Path.{refl}
use Rattle.bc6_fields.specs.Places.{entry}
use Rattle.bc6_writer.proofs.bit_of.Goals as goal

pub returns : goal.returns
unfolding entry
returns c = refl
