-- `fields::knot_write_block` meets its contract. Assumes nothing.
use mathlib.Core.Path.{sym}
use Rattle.knotpasture.proofs.fields.knot_write_block.Goals as goal

-- what the call leaves is told of the record that the numbers make

pub returns : goal.returns
returns c = rw (c.fields_from.ensures, sym c.answer_number.ensures) at c.write_block.ensures
