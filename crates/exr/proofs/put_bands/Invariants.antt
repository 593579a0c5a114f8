-- `exr::put_bands` meets its contract. Assumes nothing.
use mathlib.Core.Path.{◌≡◌}
use mathlib.Core.List.{◌++◌}
use Prim.Native.Nat.{◌+◌, ◌-◌, ◌*◌, ◌≤◌}
use lib.ListN.{length, drop}
use Rattle.laws.specs.Made.{made, join}
use Rattle.exr.specs.Bands.{band_of}
use Rattle.exr.proofs.put_bands.Given as goal

abbrev pub invariant-loop-n : goal.invariant-loop-n
invariant-loop-n l = (l.n ≤ l.down) × (l.out ≡ join (made (band_of l.blocks l.format l.across) l.n) ++ drop ((32 + 96 * l.across) * l.n) l.initial.out) × (length l.out ≡ length l.initial.out)

abbrev pub decreases-loop-n : goal.decreases-loop-n
decreases-loop-n l = l.down - l.n
