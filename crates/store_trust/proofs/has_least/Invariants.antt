-- `store_trust::has_least` meets its contract. The loop's invariant: no endpoint before e is at the lowest number. Assumes nothing.
use mathlib.Core.Path.{◌≡◌}
use mathlib.Core.Bool.{false}
use Prim.Native.Nat.{◌-◌, ◌≤◌}
use Rattle.laws.specs.Search.{some}
use Rattle.store_copies.specs.Trust.{least_end}
use Rattle.store_trust.proofs.has_least.Given as goal

abbrev pub invariant-loop-e : goal.invariant-loop-e
invariant-loop-e l = (1 ≤ l.e) × (l.e ≤ l.e-end) × (some (least_end l.fields) l.e ≡ false)

abbrev pub decreases-loop-e : goal.decreases-loop-e
decreases-loop-e l = l.e-end - l.e
