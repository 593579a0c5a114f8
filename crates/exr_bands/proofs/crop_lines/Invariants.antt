-- `exr_bands::crop_lines` meets its contract. Assumes nothing.
use Prim.Native.Nat.{◌+◌, ◌*◌, ◌-◌, ◌≤◌}
use Rattle.pfm_bands.proofs.Runs.{Filled}
use Rattle.exr_bands.specs.Bands.{cropped_line}
use Rattle.exr_bands.proofs.crop_lines.Given as goal

abbrev pub invariant-loop-row : goal.invariant-loop-row
invariant-loop-row l = (l.row ≤ l.rows) × Filled (cropped_line l.lines l.across l.width l.first) (8 + 6 * l.width) l.initial.out l.out l.row

abbrev pub decreases-loop-row : goal.decreases-loop-row
decreases-loop-row l = l.rows - l.row
