-- `destinations::codes` meets its contract: the array is the definition's table, by computing. Assumes nothing.
use mathlib.Core.Path.{refl}
use Rattle.bc6h_spec.specs.Layout.{table, rows, row1, row2, row3, row4, row5, row6, row7, row8, row9, row10, row11, row12, row13, row14}
use Rattle.bc6_table.proofs.destinations.codes.Goals as goal

pub returns : goal.returns
unfolding table rows row1 row2 row3 row4 row5 row6 row7 row8 row9 row10 row11 row12 row13 row14
returns c = refl
