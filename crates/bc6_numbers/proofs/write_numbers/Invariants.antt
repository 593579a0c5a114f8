-- `bc6_numbers::write_numbers` meets its contract: one number a turn. Assumes nothing.
use mathlib.Core.Path.{◌≡◌}
use mathlib.Core.List.{◌++◌}
use lib.ListN.{drop}
use Rattle.laws.specs.Made.{made}
use Rattle.bc6_numbers.specs.Numbers.{number_at}
use Rattle.bc6_numbers.proofs.write_numbers.Given as goal

abbrev pub invariant-loop-k : goal.invariant-loop-k
invariant-loop-k l = l.number-items ≡ made (number_at l.fields) l.k ++ drop l.k l.initial.number-items
