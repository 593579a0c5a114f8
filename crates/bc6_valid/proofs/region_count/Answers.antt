-- `bc6_valid::region_count` meets its contract. Assumes nothing.
use borrow.Author.Rules.{rules}
use mathlib.Core.Path.{sym}
use borrow.Author.Tests.{lt-leb}
use Rattle.bc6h_spec.proofs.Partitions.{counted_one}
use Rattle.bc6_valid.proofs.Sizes.{count_two}
use Rattle.bc6_valid.proofs.region_count.Goals as goal

pub returns-then-mode-le10 : goal.returns-then-mode-le10
returns-then-mode-le10 c = count_two _ _ (search rules) c.of.ensures c.count_ones.ensures

pub returns-else-mode-le10 : goal.returns-else-mode-le10
returns-else-mode-le10 c = sym (counted_one _ _ (lt-leb _ _ c.if-mode-le10.false))
