-- `run_show::numbers_in` meets its contract: one number a turn. Assumes nothing.
use mathlib.Core.Path.{◌≡◌}
use mathlib.Core.List.{◌++◌}
use lib.ListN.{drop}
use Rattle.laws.specs.Made.{made}
use Rattle.run_show.specs.Picture.{number_in}
use Rattle.run_show.proofs.numbers_in.Given as goal

abbrev pub invariant-loop-k : goal.invariant-loop-k
invariant-loop-k l = l.number-items ≡ made (number_in l.input) l.k ++ drop l.k l.initial.number-items
