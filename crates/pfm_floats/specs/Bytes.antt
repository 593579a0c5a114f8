-- S-64: a 32-bit number as four bytes, the lowest first, and the twelve bytes of three floats. Assumes nothing.
use Rattle.std.specs.Prelude.{not, List, [], ◌∷◌, ◌++◌, ℕ, ◌/◌, ◌%◌, T, Float}
use Rattle.std.specs.Float.{binary32}
use Rattle.std.specs.Float.Ieee.{to_bits, is_nan}
use Rattle.pfm_floats.specs.declared.Rgb.{Rgb}

-- S-64: the low byte first.
abbrev pub word_bytes : ℕ → List ℕ
word_bytes word = word % 256 ∷ word / 256 % 256 ∷ word / 65536 % 256 ∷ word / 16777216 % 256 ∷ []

abbrev pub float_bytes : Float → List ℕ
float_bytes x = word_bytes (to_bits binary32 x)

unfoldable pub rgb_bytes : Rgb → List ℕ
rgb_bytes p = float_bytes p.r ++ (float_bytes p.g ++ float_bytes p.b)

-- none is a NaN, which has no bits of its own
pub record Numbers (p : Rgb) : Type 0 where
  pub red : T (not (is_nan p.r))
  pub green : T (not (is_nan p.g))
  pub blue : T (not (is_nan p.b))
