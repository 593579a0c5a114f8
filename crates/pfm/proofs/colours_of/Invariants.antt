-- `pfm::colours_of` meets its contract. Assumes nothing.
use mathlib.Core.Path.{◌≡◌}
use mathlib.Core.List.{◌++◌}
use Prim.Native.Nat.{◌-◌, ◌≤◌}
use lib.ListN.{drop}
use Rattle.laws.specs.Made.{made}
use Rattle.pfm.specs.File.{colour_at}
use Rattle.pfm.proofs.colours_of.Given as goal

abbrev pub invariant-loop-k : goal.invariant-loop-k
invariant-loop-k l = (l.k ≤ 16) × (l.colours ≡ made (colour_at l.values) l.k ++ drop l.k l.initial.colours)

abbrev pub decreases-loop-k : goal.decreases-loop-k
decreases-loop-k l = 16 - l.k
