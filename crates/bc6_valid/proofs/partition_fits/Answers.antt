-- `bc6_valid::partition_fits` meets its contract. Assumes nothing.
use borrow.Author.Tests.{le-leb, lt-leb}
use Rattle.bc6h_spec.specs.Layout.{width}
use Rattle.bc6_valid.proofs.partition_fits.Goals as goal

pub returns-then-mode-le10 : goal.returns-then-mode-le10
unfolding width
returns-then-mode-le10 c = rw (le-leb _ _ c.if-mode-le10.true)

pub returns-else-mode-le10 : goal.returns-else-mode-le10
unfolding width
returns-else-mode-le10 c = rw (lt-leb _ _ c.if-mode-le10.false)
