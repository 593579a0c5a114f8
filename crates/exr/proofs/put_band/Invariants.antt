-- `exr::put_band` meets its contract. Assumes nothing.
use mathlib.Core.Path.{◌≡◌}
use Prim.Native.Nat.{◌-◌, ◌≤◌}
use lib.ListN.{length}
use Rattle.exr.proofs.Bands.{band_upto}
use Rattle.exr.proofs.put_band.Given as goal

abbrev pub invariant-loop-column : goal.invariant-loop-column
invariant-loop-column l = (l.column ≤ l.across) × (l.out ≡ band_upto l.blocks l.format l.first l.across l.initial.out l.column) × (length l.out ≡ length l.initial.out)

abbrev pub decreases-loop-column : goal.decreases-loop-column
decreases-loop-column l = l.across - l.column
