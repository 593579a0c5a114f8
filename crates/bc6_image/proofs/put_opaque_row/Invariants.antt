-- `bc6_image::put_opaque_row` meets its contract: a turn stores the next pixel. Assumes nothing.
use mathlib.Core.Path.{◌≡◌}
use mathlib.Core.Bool.{true}
use Prim.Native.Nat.{◌-◌, ◌≤◌}
use lib.ListN.{length}
use lib.Seq.{sets}
use Rattle.laws.specs.Made.{made, join}
use Rattle.bc6_image.specs.Stores.{pixel_in}
use Rattle.bc6_image.proofs.put_opaque_row.Given as goal

abbrev pub invariant-loop-x : goal.invariant-loop-x
invariant-loop-x l = (l.x ≤ 4) × (l.out ≡ sets l.initial.out l.at (join (made (pixel_in true l.values l.row) l.x))) × (length l.out ≡ length l.initial.out)

abbrev pub decreases-loop-x : goal.decreases-loop-x
decreases-loop-x l = 4 - l.x
