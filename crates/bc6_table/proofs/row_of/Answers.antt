-- `bc6_table::row_of` meets its contract: the part of the table that is the row. Assumes nothing.
use borrow.Author.Rules.{rules}
use Rattle.bc6_table.proofs.Walk.{row_fits, row_cut}
use Rattle.bc6_table.proofs.row_of.Goals as goal

pub slice_bounds-result-end : goal.slice_bounds-result-end
slice_bounds-result-end c = let h = row_fits c.requires.0 c.requires.1 c.requires.2 c.row_start-start.ensures c.table_bits.ensures in search rules

pub returns : goal.returns
returns c = row_cut c.requires.0 c.requires.1 c.requires.2 c.row_start-start.ensures c.table_bits.ensures
