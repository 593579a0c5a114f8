-- `bc6_valid::second_fixup` meets its contract. Assumes nothing.
use borrow.Author.Tests.{le-leb, lt-leb}
use Rattle.bc6_valid.specs.Sizes.{second_fixup}
use Rattle.bc6_valid.proofs.second_fixup.Goals as goal

pub returns-then-mode-le10 : goal.returns-then-mode-le10
unfolding second_fixup
returns-then-mode-le10 c = rw (le-leb _ _ c.if-mode-le10.true, c.of-map.ensures)

pub returns-else-mode-le10 : goal.returns-else-mode-le10
unfolding second_fixup
returns-else-mode-le10 c = rw (lt-leb _ _ c.if-mode-le10.false)
