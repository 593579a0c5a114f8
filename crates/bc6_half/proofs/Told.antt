-- What is told beside a pattern. Assumes nothing.
use mathlib.Core.Path.{◌≡◌}
use mathlib.Core.Bool.{Bool}
use lib.IntN.{ℤ}
use Rattle.laws.specs.Ranges.{InBits}
use Rattle.bc6h_spec.specs.Half.{finished}
use Rattle.bc6h_spec.proofs.Highest.{told_exactly}
use Rattle.bc6_half.specs.Halves.{half_of, marked}

-- S-25: 0xFC00 exactly where the interpolated number is −32768
pub half_marked : (signed : Bool) (x : ℤ) → InBits signed 16 x → half_of signed x ≡ marked (finished signed x)
unfolding half_of marked
half_marked signed x r = let e = told_exactly signed x r in λ i. record { pattern = finished signed x; infinite = e i }
