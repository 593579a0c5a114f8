-- Closed examples: one, the smallest pattern, the largest, the largest subnormal below zero, both zeros, and bytes. Assumes nothing.
use mathlib.Core.Path.{◌≡◌, refl}
use mathlib.Core.Bool.{true, false}
use mathlib.Core.List.{[], ◌∷◌}
use lib.IntN.{pos, negsuc}
use lib.Ieee.{fin, round, to_bits}
use Rattle.pfm_floats.specs.Half.{float_of, size_of, magnitude_at, half_value, rgb_of}
use Rattle.pfm_floats.specs.Bytes.{rgb_bytes}

one : float_of 0x3C00 ≡ fin false 1 (pos 0)
unfolding float_of size_of magnitude_at round
one = refl

smallest : float_of 0x0001 ≡ fin false 1 (negsuc 23)
unfolding float_of size_of magnitude_at round
smallest = refl

largest : float_of 0x7BFF ≡ fin false 2047 (pos 5)
unfolding float_of size_of magnitude_at round
largest = refl

below_zero : float_of 0x83FF ≡ fin true 1023 (negsuc 23)
unfolding float_of size_of magnitude_at round
below_zero = refl

plus_zero : float_of 0x0000 ≡ fin false 0 (pos 0)
unfolding float_of size_of magnitude_at round
plus_zero = refl

minus_zero : float_of 0x8000 ≡ fin true 0 (pos 0)
unfolding float_of size_of magnitude_at round
minus_zero = refl

value_of_lowest : half_value 0xFBFF ≡ negsuc 1098974756863
unfolding half_value size_of magnitude_at
value_of_lowest = refl

-- 1.0, 2^−24 and minus infinity
bytes : rgb_bytes (rgb_of 0x3C00 0x0001 0xFC00) ≡ 0 ∷ 0 ∷ 128 ∷ 63 ∷ 0 ∷ 0 ∷ 128 ∷ 51 ∷ 0 ∷ 0 ∷ 128 ∷ 255 ∷ []
unfolding float_of size_of magnitude_at round rgb_bytes to_bits
bytes = refl
