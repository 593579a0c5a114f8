-- `bc7_weights::weigh` meets its contract: one store a turn in each loop. Assumes nothing.
use mathlib.Core.Path.{◌≡◌}
use mathlib.Core.List.{◌++◌}
use Prim.Native.Nat.{◌+◌, ◌-◌, ◌≤◌}
use lib.ListN.{drop, replicate}
use Rattle.laws.specs.Made.{made}
use Rattle.laws.specs.Ranges.{AllBelow}
use Rattle.bc7_weights.proofs.Weighing.{side}
use Rattle.bc7_weights.proofs.weigh.Given as goal

abbrev pub invariant-loop-k : goal.invariant-loop-k
invariant-loop-k l = (l.k ≤ 8) × (l.weights ≡ made (side l.bits l.low l.high) l.k ++ drop l.k (replicate 16 0)) × AllBelow 65 l.weights

abbrev pub decreases-loop-k : goal.decreases-loop-k
decreases-loop-k l = 8 - l.k

abbrev pub invariant-loop-k-2 : goal.invariant-loop-k-2
invariant-loop-k-2 l = (l.k ≤ 8) × (l.weights ≡ made (side l.bits l.low l.high) (l.k + 8) ++ drop (l.k + 8) (replicate 16 0)) × AllBelow 65 l.weights

abbrev pub decreases-loop-k-2 : goal.decreases-loop-k-2
decreases-loop-k-2 l = 8 - l.k
