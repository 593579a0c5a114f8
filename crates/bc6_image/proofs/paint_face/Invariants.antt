-- `bc6_image::paint_face` meets its contract: a turn decodes the next block and stores its pixels. Assumes nothing.
use mathlib.Core.Path.{◌≡◌}
use Prim.Native.Nat.{◌-◌, ◌≤◌}
use lib.ListN.{length}
use Rattle.laws.specs.Made.{count_of}
use Rattle.bc6h_spec.specs.Half.{minus_infinity}
use Rattle.bc6h_spec.specs.Picture.{is_signed}
use Rattle.bc6_blocks.specs.Run.{run_of}
use Rattle.bc6_image.specs.Stores.{face_put}
use Rattle.bc6_image.proofs.paint_face.Given as goal

abbrev pub invariant-loop-n : goal.invariant-loop-n
invariant-loop-n l =
    (l.n ≤ l.count) × (l.out ≡ face_put (is_signed l.format) l.alpha l.blocks l.width l.pitch l.n l.initial.out) × (length l.out ≡ length l.initial.out)
    × (l.infinite ≡ count_of minus_infinity (run_of (is_signed l.format) l.blocks l.n))

abbrev pub decreases-loop-n : goal.decreases-loop-n
decreases-loop-n l = l.count - l.n
