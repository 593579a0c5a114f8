-- `exr_square::put_lines` meets its contract. Assumes nothing.
use mathlib.Core.Path.{◌≡◌}
use Prim.Native.Nat.{◌-◌, ◌*◌, ◌≤◌}
use lib.ListN.{length}
use lib.Seq.{sets}
use Rattle.laws.specs.Made.{made, join}
use Rattle.exr_square.specs.Square.{square_line}
use Rattle.exr_square.proofs.put_lines.Given as goal

abbrev pub invariant-loop-y : goal.invariant-loop-y
invariant-loop-y l = (l.y ≤ l.count) × (length l.out ≡ length l.initial.out) × (l.out ≡ sets l.initial.out l.at (join (made (square_line l.values (4 * l.edge)) l.y)))

abbrev pub decreases-loop-y : goal.decreases-loop-y
decreases-loop-y l = l.count - l.y
