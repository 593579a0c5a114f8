-- S-64: what a half-float pattern is worth, as a whole number of 2^−24ths, and the 32-bit float that is exactly it. Assumes nothing.
use Rattle.std.specs.Prelude.{◌≡◌, Bool, true, false, ℕ, zero, suc, ◌+◌, ◌*◌, ◌/◌, ◌%◌, ◌^◌, ◌≤◌, eqb, ℤ, pos, neg_ℤ, ◌*ℤ◌, Float}
use Rattle.std.specs.Float.{nan, inf, fin, binary32}
use Rattle.std.specs.Float.Ieee.{round, up, down}
use Rattle.laws.specs.Pick.{pick}
use Rattle.pfm_floats.specs.declared.Rgb.{Rgb}

-- the whole number of a size, with a sign
abbrev pub signed : Bool → ℕ → ℤ
signed true n = neg_ℤ (pos n)
signed false n = pos n

-- bit 15, bits 10 to 14 and bits 0 to 9 of the pattern
abbrev pub is_negative : ℕ → Bool
is_negative half = eqb (half / 0x8000) 1

abbrev pub exponent_of : ℕ → ℕ
exponent_of half = half / 0x400 % 32

abbrev pub digits_of : ℕ → ℕ
digits_of half = half % 0x400

-- The size in 2^−24ths: an exponent of 0 is a subnormal pattern, which has no leading digit.
unfoldable pub magnitude_at : ℕ → ℕ → ℕ
magnitude_at zero digits = digits
magnitude_at (suc exponent) digits = (0x400 + digits) * 2 ^ exponent

unfoldable pub size_of : ℕ → ℕ
size_of half = magnitude_at (exponent_of half) (digits_of half)

-- S-64: the value of a pattern whose exponent is below 31, as a multiple of 2^−24.
unfoldable pub half_value : ℕ → ℤ
half_value half = signed (is_negative half) (size_of half)

-- the float is exactly z times 2^−24, and its sign is that of the pattern: a finite float is m · up e / down e
abbrev pub Is24ths : Float → Bool → ℤ → Type 0
Is24ths nan negative z = ⊥
Is24ths (inf s) negative z = ⊥
Is24ths (fin s m e) negative z = (s ≡ negative) × (signed s (m * up e * 2 ^ 24) ≡ z *ℤ pos (down e))

-- S-64: the float of a pattern. Below exponent 31: the one nearest to its value, which is its value (proofs/Exact). At 31: an infinity without
-- digits, so that 0xFC00 becomes minus infinity, and not a number with some.
unfoldable pub float_of : ℕ → Float
float_of half =
    pick (eqb (exponent_of half) 31) (pick (eqb (digits_of half) 0) (inf (is_negative half)) nan)
    (round binary32 (is_negative half) (size_of half) (2 ^ 24))

abbrev pub rgb_of : ℕ → ℕ → ℕ → Rgb
rgb_of red green blue = record { r = float_of red; g = float_of green; b = float_of blue }

-- the pattern stands for a number or an infinity
abbrev pub IsNumber : ℕ → Type 0
IsNumber half = half % 0x8000 ≤ 0x7C00
