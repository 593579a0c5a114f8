-- `Subset3Map::row` meets its contract: the number of a row, taken apart. Assumes nothing.
use Rattle.bcn_data.proofs.Arms.{row_is}
use Rattle.bcn_data.proofs.Rows.{small3, apart3}
use Rattle.bcn_data.proofs.Subset3Map.row.Goals as goal

pub overflow_cast-result-4 : goal.overflow_cast-result-4
overflow_cast-result-4 c = record { fits = small3 _ _ c.requires (row_is c.three_row-row.ensures) }

pub returns : goal.returns
returns c = apart3 _ _ c.requires (row_is c.three_row-row.ensures)
