-- The float of a pattern is exactly the pattern's value; which patterns give a number. Assumes nothing.
use mathlib.Core.Path.{◌≡◌, refl, sym, ap, ◌∙◌}
use mathlib.Core.Logic.{⊎_elim}
use mathlib.Core.Bool.{Bool, true, false, not}
use Prim.Native.Nat.{ℕ, zero, suc, ◌+◌, ◌*◌, ◌^◌, ◌≤◌, ◌<◌}
use native.Mathlib.Nat.{eq-or-lt_of_le, lt_of_lt_of_le, mul_assoc, mul_comm, mul_left_comm, mul-one, zero-mul}
use native.Mathlib.Omega.{arith}
use lib.Dec.{T, eqb, lit<}
use lib.Pow.{pow-add, pow_pos, pow_mono, shl_lt}
use lib.IntN.{pos, ◌*ℤ◌}
use lib.Ieee.{Float, nan, inf, fin, binary32, round, of_bits, down, to_bits, fits, is_nan}
use lib.Ieee.Exact.{HasValue, round_exact}
use lib.Ieee.Fits.{inf-fits, round-fits}
use lib.Ieee.Bits.{of_bits-to_bits}
use borrow.Author.Tests.{eq-eqb, ne_eqb}
use Rattle.laws.specs.Pick.{pick}
use Rattle.pfm_floats.specs.Half.{signed, is_negative, exponent_of, digits_of, magnitude_at, size_of, half_value, Is24ths, float_of, rgb_of, IsNumber}
use Rattle.pfm_floats.specs.declared.Rgb.{Rgb}
use Rattle.pfm_floats.specs.Bytes.{Numbers}

-- ---- exactness

pub exact_part : (s : Bool) (q k : ℕ) → q < 2048 → k < 30 → HasValue (round binary32 s (q * 2 ^ k) (2 ^ 24)) s (q * 2 ^ k) (2 ^ 24)
exact_part s q k Q K =
    round_exact binary32 s (q * 2 ^ k) (2 ^ 24) q (k + 125) (pow_pos 24) (omega arith)
    (lt_of_lt_of_le (shl_lt 11 (k + 125) Q) (pow_mono {j = 277} (omega arith)))
    (regroup_at q (2 ^ k) ∙ ap (λ (x : ℕ). q * x * 2 ^ 24) (sym (pow-add 2 k 125)))
  where
    shape : (q p a b : ℕ) → q * p * (a * b) ≡ q * (p * a) * b
    shape q p a b = simp (mul_assoc, mul_comm, mul_left_comm)

    regroup_at : (q p : ℕ) → q * p * 2 ^ 149 ≡ q * (p * 2 ^ 125) * 2 ^ 24
    regroup_at q p = shape q p (2 ^ 125) (2 ^ 24)

exact_at : (s : Bool) (e m : ℕ) → e < 31 → m < 1024 → HasValue (round binary32 s (magnitude_at e m) (2 ^ 24)) s (magnitude_at e m) (2 ^ 24)
unfolding magnitude_at
exact_at s zero m E M = rw mul-one at (exact_part s m 0 (omega arith) (lit< tt))
exact_at s (suc e) m E M = exact_part s (1024 + m) e (omega arith) (omega arith)

times : (s : Bool) (a d : ℕ) → signed s (a * d) ≡ signed s a *ℤ pos d
times false a d = refl
times true zero d = rw zero-mul
times true (suc a) d = refl

value_24 : (x : Float) (s : Bool) (a : ℕ) → HasValue x s a (2 ^ 24) → Is24ths x s (signed s a)
value_24 nan s a v = v
value_24 (inf t) s a v = v
value_24 (fin t m e) s a v = (v.0, rw v.0 (ap (signed s) v.1 ∙ times s a (down e)))

-- S-64: for every pattern whose exponent is below 31, subnormal ones too, of either sign, the
-- float is the pattern's whole number of 2^−24ths, and a zero keeps its sign
pub float_exact : (h : ℕ) → exponent_of h < 31 → Is24ths (float_of h) (is_negative h) (half_value h)
unfolding float_of half_value size_of
float_exact h E =
    rw (ne_eqb (exponent_of h) 31 (λ e. omega arith))
    (value_24 (round binary32 (is_negative h) (magnitude_at (exponent_of h) (digits_of h)) (2 ^ 24)) (is_negative h) (magnitude_at (exponent_of h) (digits_of h)) (exact_at (is_negative h) (exponent_of h) (digits_of h) E (omega arith)))

-- S-64: the other patterns: 0xFC00 becomes minus infinity; 0x7C00, which no block shows, plus infinity; and not a number, which none shows either
pub float_lowest : float_of 0xFC00 ≡ inf true
unfolding float_of
float_lowest = refl

pub float_highest : float_of 0x7C00 ≡ inf false
unfolding float_of
float_highest = refl

pub float_nan : (h : ℕ) → exponent_of h ≡ 31 → (digits_of h ≡ 0 → ⊥) → float_of h ≡ nan
unfolding float_of
float_nan h e n = rw (eq-eqb _ _ e, ne_eqb _ _ n)

-- ---- numbers

valued : (x : Float) (s : Bool) (a c : ℕ) → HasValue x s a c → T (not (is_nan x))
unfolding is_nan
valued nan s a c v = v
valued (inf t) s a c v = tt
valued (fin t m e) s a c v = tt

no_digits : (h : ℕ) → IsNumber h → exponent_of h ≡ 31 → digits_of h ≡ 0
no_digits h n e = omega arith

-- a pattern that is a number or an infinity gives no NaN
pub float_number : (h : ℕ) → IsNumber h → T (not (is_nan (float_of h)))
unfolding is_nan float_of size_of
float_number h n =
    ⊎_elim
    (λ e. rw (eq-eqb (exponent_of h) 31 e, eq-eqb (digits_of h) 0 (no_digits h n e)) tt)
    (λ l.
    rw (ne_eqb (exponent_of h) 31 (λ e. omega arith))
    (valued (round binary32 (is_negative h) (magnitude_at (exponent_of h) (digits_of h)) (2 ^ 24)) (is_negative h) (magnitude_at (exponent_of h) (digits_of h)) (2 ^ 24) (exact_at (is_negative h) (exponent_of h) (digits_of h) (omega arith) (omega arith))))
    (eq-or-lt_of_le (most h))
  where
    most : (h : ℕ) → exponent_of h ≤ 31
    most h = omega arith

pub are_numbers : (r g b : ℕ) {p : Rgb} → p ≡ rgb_of r g b → IsNumber r → IsNumber g → IsNumber b → Numbers p
are_numbers r g b e i j k = rw e (record { red = float_number r i; green = float_number g j; blue = float_number b k })

-- who reads the bits as a 32-bit float gets the float of the pattern
pub float_back : (h : ℕ) → of_bits binary32 (to_bits binary32 (float_of h)) ≡ float_of h
unfolding float_of fits
float_back h = of_bits-to_bits binary32 (float_of h) (pick_fits (eqb (exponent_of h) 31) (eqb (digits_of h) 0))
  where
    pick_fits : (a b : Bool) → T (fits binary32 (pick a (pick b (inf (is_negative h)) nan) (round binary32 (is_negative h) (size_of h) (2 ^ 24))))
    pick_fits true true = inf-fits binary32 (is_negative h)
    pick_fits true false = tt
    pick_fits false b = round-fits binary32 (is_negative h) (size_of h) (2 ^ 24)
