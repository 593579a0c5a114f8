-- `check_bc7::decode_pieces` meets its contract: a turn writes what the next piece shows. Assumes nothing.
use mathlib.Core.Path.{◌≡◌}
use mathlib.Core.List.{◌++◌}
use Prim.Native.Nat.{◌≤◌, ◌-◌, ◌*◌}
use lib.ListN.{length, drop}
use Rattle.laws.specs.Made.{made, join}
use Rattle.check_bc7.specs.Shown.{shown_at}
use Rattle.check_bc7.proofs.decode_pieces.Given as goal

abbrev pub invariant-loop-i : goal.invariant-loop-i
invariant-loop-i l = (l.i ≤ l.count) × (l.out ≡ join (made (shown_at l.input) l.i) ++ drop (66 * l.i) l.initial.out) × (length l.out ≡ length l.initial.out)

abbrev pub decreases-loop-i : goal.decreases-loop-i
decreases-loop-i l = l.count - l.i
