-- `bc7_ends::ends_of` meets its contract: four stores a turn, of endpoint e. Assumes nothing.
use mathlib.Core.Path.{◌≡◌}
use mathlib.Core.List.{◌++◌}
use Prim.Native.Nat.{◌+◌, ◌-◌, ◌*◌, ◌≤◌}
use lib.ListN.{drop, replicate}
use Rattle.laws.specs.Made.{made}
use Rattle.laws.specs.Ranges.{AllBelow}
use Rattle.bc7_ends.specs.Ends.{end_at}
use Rattle.bc7_ends.proofs.ends_of.Given as goal

abbrev pub invariant-loop-e : goal.invariant-loop-e
invariant-loop-e l = (l.e ≤ l.count) × (l.ends ≡ made (end_at l.r l.g l.b l.a l.w l.wa l.p l.d) (4 * l.e) ++ drop (4 * l.e) (replicate 24 0)) × AllBelow 256 l.ends

abbrev pub decreases-loop-e : goal.decreases-loop-e
decreases-loop-e l = l.count - l.e
