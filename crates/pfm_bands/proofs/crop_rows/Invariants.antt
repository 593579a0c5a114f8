-- `pfm_bands::crop_rows` meets its contract. Assumes nothing.
use Prim.Native.Nat.{◌*◌, ◌-◌, ◌≤◌}
use Rattle.pfm_bands.specs.Bands.{cropped_row}
use Rattle.pfm_bands.proofs.Runs.{Filled}
use Rattle.pfm_bands.proofs.crop_rows.Given as goal

abbrev pub invariant-loop-i : goal.invariant-loop-i
invariant-loop-i l = (l.i ≤ l.rows) × Filled (cropped_row l.lines l.across l.width l.rows) (12 * l.width) l.initial.out l.out l.i

abbrev pub decreases-loop-i : goal.decreases-loop-i
decreases-loop-i l = l.rows - l.i
