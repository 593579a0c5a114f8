-- `exr_square::put_channel` meets its contract. Assumes nothing.
use mathlib.Core.Path.{◌≡◌}
use Prim.Native.Nat.{◌-◌, ◌≤◌}
use lib.ListN.{length}
use lib.Seq.{sets}
use Rattle.laws.specs.Made.{made, join}
use Rattle.exr_square.specs.Square.{square_value}
use Rattle.exr_square.proofs.put_channel.Given as goal

abbrev pub invariant-loop-x : goal.invariant-loop-x
invariant-loop-x l = (l.x ≤ l.side) × (length l.out ≡ length l.initial.out) × (l.out ≡ sets l.initial.out l.at (join (made (square_value l.values l.side l.channel l.y) l.x)))

abbrev pub decreases-loop-x : goal.decreases-loop-x
decreases-loop-x l = l.side - l.x
