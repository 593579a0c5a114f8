-- `bc6_image::put_block` meets its contract: a turn stores the next row. Assumes nothing.
use mathlib.Core.Path.{◌≡◌}
use Prim.Native.Nat.{◌*◌, ◌-◌, ◌≤◌}
use lib.ListN.{length}
use Rattle.bc6_image.specs.Stores.{stored_cells, pixel_of, pixel_place}
use Rattle.bc6_image.proofs.put_block.Given as goal

abbrev pub invariant-loop-row : goal.invariant-loop-row
invariant-loop-row l = (l.row ≤ 4) × (l.out ≡ stored_cells (pixel_place l.alpha l.pitch l.at) (pixel_of l.alpha l.values) (4 * l.row) l.initial.out) × (length l.out ≡ length l.initial.out)

abbrev pub decreases-loop-row : goal.decreases-loop-row
decreases-loop-row l = 4 - l.row
