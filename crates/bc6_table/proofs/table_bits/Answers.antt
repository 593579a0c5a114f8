-- `bc6_table::table_bits` meets its contract. Assumes nothing.
use borrow.Author.Tests.{le-leb, lt-leb}
use Rattle.bc6_table.proofs.table_bits.Goals as goal

pub returns-then-mode-le10 : goal.returns-then-mode-le10
returns-then-mode-le10 c = simp (le-leb _ _ c.if-mode-le10.true)

pub returns-else-mode-le10 : goal.returns-else-mode-le10
returns-else-mode-le10 c = simp (lt-leb _ _ c.if-mode-le10.false)
