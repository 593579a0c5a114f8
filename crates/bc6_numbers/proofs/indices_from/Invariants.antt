-- `bc6_numbers::indices_from` meets its contract: one index a turn. Assumes nothing.
use mathlib.Core.Path.{◌≡◌}
use mathlib.Core.List.{◌++◌}
use lib.ListN.{drop}
use Rattle.laws.specs.Made.{made}
use Rattle.bc6_numbers.specs.Numbers.{index_from}
use Rattle.bc6_numbers.proofs.indices_from.Given as goal

abbrev pub invariant-loop-k : goal.invariant-loop-k
invariant-loop-k l = l.index-items ≡ made (index_from l.numbers) l.k ++ drop l.k l.initial.index-items
