-- How `float_of` comes to the float of a pattern: each kind by its own value, the choice among them, and the sign by a product. Assumes nothing.
use mathlib.Core.Path.{◌≡◌, refl, sym, ap, ◌∙◌}
use mathlib.Core.Logic.{⊎_elim}
use mathlib.Core.Bool.{Bool, true, false, not}
use Prim.Native.Nat.{ℕ, zero, suc, ◌+◌, ◌*◌, ◌/◌, ◌%◌, ◌^◌, ◌≤◌, ◌<◌}
use native.Mathlib.Nat.{eq-or-lt_of_le, mul_assoc, mul_comm, mul_left_comm, mul-one, mul-pos}
use native.Mathlib.Omega.{arith}
use lib.Dec.{T, eqb, leb, ltb, lit<}
use lib.Pow.{pow-add, pow_pos}
use lib.IntN.{pos, negsuc}
use lib.Ieee.{Float, nan, inf, fin, Format, binary32, round, mul, sub, add, neg, of_int, of_bits, of_fields, nan_bits, in_float, up, down, unlike}
use lib.Ieee.Exact.{HasValue, odd_sign}
use lib.Ieee.Back.{round_whole}
use lib.Ieee.Fits.{down_pos}
use lib.Ieee.Scale.{round_same}
use borrow.Author.Tests.{lt-ltb, le-ltb, le-leb, lt-leb, ne_eqb}
use Rattle.laws.specs.Pick.{pick}
use Rattle.pfm_floats.specs.Half.{is_negative, exponent_of, digits_of, magnitude_at, size_of, float_of}
use Rattle.pfm_floats.proofs.Exact.{exact_part}

-- ---- a product sees only the values of its factors
mul_values : (f : Format) (x y : Float) (s t : Bool) (a c b d : ℕ) → 0 < c → 0 < d → HasValue x s a c → HasValue y t b d
    → mul f x y ≡ round f (unlike s t) (a * b) (c * d)
unfolding mul
mul_values f nan y s t a c b d C D v w = absurd v
mul_values f (inf z) y s t a c b d C D v w = absurd v
mul_values f (fin z m e) nan s t a c b d C D v w = absurd w
mul_values f (fin z m e) (inf z') s t a c b d C D v w = absurd w
mul_values f (fin z m e) (fin z' n e') s t a c b d C D v w =
    rw (v.0, w.0)
    (round_same f (unlike s t) (m * up e * (n * up e')) (down e * down e') (a * b) (c * d) (mul-pos (down_pos e) (down_pos e')) (mul-pos C D)
    (cross (m * up e) (n * up e') c d ∙ ap (λ (x : ℕ). x * (n * up e' * d)) v.1 ∙ ap (λ (x : ℕ). a * down e * x) w.1 ∙ cross a (down e) b (down e')))
  where
    cross : (x y c d : ℕ) → x * y * (c * d) ≡ x * c * (y * d)
    cross x y c d = simp (mul_assoc, mul_comm, mul_left_comm)

-- ---- a float times 1, or times -1

pub one_bits : (s : ℕ) → s < 2 → T (not (nan_bits binary32 (s * 2147483648 + 1065353216)))
unfolding nan_bits
one_bits zero S = tt
one_bits (suc zero) S = tt
one_bits (suc (suc s)) S = absurd (omega arith)

one_is : (s : ℕ) → s < 2 → of_bits binary32 (s * 2147483648 + 1065353216) ≡ fin (eqb s 1) 1 (pos 0)
unfolding of_bits
one_is zero S = refl
one_is (suc zero) S = refl
one_is (suc (suc s)) S = absurd (omega arith)

unlike_false : (t : Bool) → unlike false t ≡ t
unlike_false true = refl
unlike_false false = refl

with_sign : (x : Float) (t : Bool) (a c : ℕ) → 0 < c → HasValue x false a c → mul binary32 x (fin t 1 (pos 0)) ≡ round binary32 t a c
with_sign x t a c C v =
    mul_values binary32 x (fin t 1 (pos 0)) false t a c 1 1 C (lit< tt) v (refl, refl)
    ∙ rw (unlike_false t, mul-one a, mul-one c)

-- ---- each kind of pattern

-- a float by its bits, without a sign
fields_at : (e digits : ℕ) → e < 254 → digits < 8388608
    → of_bits binary32 (suc e * 8388608 + digits) ≡ of_fields binary32 false (suc e) digits
unfolding of_bits
fields_at e digits E D =
    let b = suc e * 8388608 + digits in
    let sg : leb 2147483648 b ≡ false = lt-leb 2147483648 b (omega arith) in
    let ex : b % 2147483648 / 8388608 ≡ suc e = omega arith in
    let dg : b % 8388608 ≡ digits = omega arith in
    rw (sg, ex, dg)

normal_value : (k m : ℕ) → k < 30 → m < 1024
    → HasValue (of_bits binary32 ((suc k * 1024 + m) * 8192 + 939524096)) false ((8388608 + m * 8192) * 2 ^ (k + 112)) (2 ^ 149)
unfolding of_fields
normal_value k m K M =
    let b : (suc k * 1024 + m) * 8192 + 939524096 ≡ suc (k + 112) * 8388608 + m * 8192 = omega arith in
    rw (b, fields_at (k + 112) (m * 8192) (omega arith) (omega arith), ne_eqb (suc (k + 112)) 255 (λ e. omega arith))
    (odd_sign 24 false (8388608 + m * 8192) (k + 112) 149)

pub normal_bits : (size : ℕ) → size < 32768 → T (not (nan_bits binary32 (size * 8192 + 939524096)))
unfolding nan_bits
normal_bits size S =
    let ex : (size * 8192 + 939524096) % 2147483648 / 8388608 ≡ size / 1024 + 112 = omega arith in
    rw (ex, ne_eqb (size / 1024 + 112) 255 (λ e. omega arith)) tt

normal_signed : (t : Bool) (k m : ℕ) → k < 30 → m < 1024
    → mul binary32 (of_bits binary32 ((suc k * 1024 + m) * 8192 + 939524096)) (fin t 1 (pos 0)) ≡ round binary32 t ((1024 + m) * 2 ^ k) (2 ^ 24)
normal_signed t k m K M =
    with_sign (of_bits binary32 ((suc k * 1024 + m) * 8192 + 939524096)) t ((8388608 + m * 8192) * 2 ^ (k + 112)) (2 ^ 149) (pow_pos 149) (normal_value k m K M)
    ∙ round_same binary32 t ((8388608 + m * 8192) * 2 ^ (k + 112)) (2 ^ 149) ((1024 + m) * 2 ^ k) (2 ^ 24) (pow_pos 149) (pow_pos 24)
    (ap (λ (x : ℕ). x * 2 ^ 24) (ap (λ (x : ℕ). x * 2 ^ (k + 112)) thirteen ∙ ap (λ (x : ℕ). (1024 + m) * 8192 * x) (pow-add 2 k 112)) ∙ regroup (1024 + m) (2 ^ k))
  where
    thirteen : 8388608 + m * 8192 ≡ (1024 + m) * 8192
    thirteen = omega arith

    shape : (q u p a b : ℕ) → q * u * (p * a) * b ≡ q * p * (u * a * b)
    shape q u p a b = simp (mul_assoc, mul_comm, mul_left_comm)

    regroup : (q p : ℕ) → q * 8192 * (p * 2 ^ 112) * 2 ^ 24 ≡ q * p * 2 ^ 149
    regroup q p = shape q 8192 p (2 ^ 112) (2 ^ 24)

pub size_whole : (size : ℕ) → size < 32768 → T (in_float binary32 (pos size))
unfolding in_float
size_whole size S = rw (le-leb size 16777216 (omega arith)) tt

whole_value : (m : ℕ) → m < 1024 → HasValue (of_int binary32 (pos m)) false m 1
unfolding of_int
whole_value m h = round_whole binary32 false m (omega arith)

unit_is : of_bits binary32 864026624 ≡ fin false 1 (negsuc 23)
unfolding of_bits
unit_is = refl

subnormal_value : (m : ℕ) → m < 1024 → HasValue (mul binary32 (of_int binary32 (pos m)) (of_bits binary32 864026624)) false m (2 ^ 24)
subnormal_value m M =
    rw (product, mul-one m) at (exact_part false m 0 (omega arith) (lit< tt))
  where
    product : round binary32 false (m * 2 ^ 0) (2 ^ 24) ≡ mul binary32 (of_int binary32 (pos m)) (of_bits binary32 864026624)
    product = sym (rw unit_is (mul_values binary32 (of_int binary32 (pos m)) (fin false 1 (negsuc 23)) false false m 1 1 (2 ^ 24) (lit< tt) (pow_pos 24) (whole_value m M) (refl, refl)))

infinite_is : of_bits binary32 2139095040 ≡ inf false
unfolding of_bits
infinite_is = refl

-- an infinity less itself is no number
none_is : sub binary32 (of_bits binary32 2139095040) (of_bits binary32 2139095040) ≡ nan
unfolding sub add neg of_bits
none_is = refl

-- ---- the choice among the kinds, by exponent and digits

float_at : Bool → ℕ → ℕ → Float
float_at t e m = pick (eqb e 31) (pick (eqb m 0) (inf t) nan) (round binary32 t (magnitude_at e m) (2 ^ 24))

chosen_of : ℕ → Float
chosen_of size =
    pick (leb size 31744)
    (pick (ltb size 1024) (mul binary32 (of_int binary32 (pos size)) (of_bits binary32 864026624))
    (pick (ltb size 31744) (of_bits binary32 (size * 8192 + 939524096)) (of_bits binary32 2139095040)))
    (sub binary32 (of_bits binary32 2139095040) (of_bits binary32 2139095040))

below_top : (t : Bool) (k m : ℕ) → k < 30 → m < 1024 → mul binary32 (chosen_of (suc k * 1024 + m)) (fin t 1 (pos 0)) ≡ float_at t (suc k) m
unfolding float_at chosen_of magnitude_at
below_top t k m K M =
    let size = suc k * 1024 + m in
    rw (le-leb size 31744 (omega arith), le-ltb size 1024 (omega arith), lt-ltb size 31744 (omega arith), ne_eqb (suc k) 31 (λ e. omega arith))
    (normal_signed t k m K M)

at_top : (t : Bool) (m : ℕ) → m < 1024 → mul binary32 (chosen_of (31 * 1024 + m)) (fin t 1 (pos 0)) ≡ float_at t 31 m
unfolding float_at chosen_of mul
at_top t zero M = rw infinite_is (ap inf (unlike_false t))
at_top t (suc m) M =
    let size = 31 * 1024 + suc m in
    rw (lt-leb size 31744 (omega arith), none_is, ne_eqb (suc m) 0 (λ e. omega arith))

chosen_at : (t : Bool) (e m : ℕ) → e < 32 → m < 1024 → mul binary32 (chosen_of (e * 1024 + m)) (fin t 1 (pos 0)) ≡ float_at t e m
unfolding float_at chosen_of magnitude_at
chosen_at t zero m E M =
    let none : 0 * 1024 + m ≡ m = omega arith in
    rw (none, le-leb m 31744 (omega arith), lt-ltb m 1024 M)
    (with_sign (mul binary32 (of_int binary32 (pos m)) (of_bits binary32 864026624)) t m (2 ^ 24) (pow_pos 24) (subnormal_value m M))
chosen_at t (suc k) m E M = ⊎_elim (λ e. rw e (at_top t m M)) (λ l. below_top t k m l M) (eq-or-lt_of_le (le_30 k E))
  where
    le_30 : (k : ℕ) → suc k < 32 → k ≤ 30
    le_30 k E = omega arith

-- the choice as the code makes it, times 1 or -1
pub chosen : (h : ℕ) → h < 65536 → {high number magnitude : Float}
    → high ≡ pick (ltb (h % 32768) 31744) (of_bits binary32 (h % 32768 * 8192 + 939524096)) (of_bits binary32 2139095040)
    → number ≡ pick (ltb (h % 32768) 1024) (mul binary32 (of_int binary32 (pos (h % 32768))) (of_bits binary32 864026624)) high
    → magnitude ≡ pick (leb (h % 32768) 31744) number (sub binary32 (of_bits binary32 2139095040) (of_bits binary32 2139095040))
    → mul binary32 magnitude (of_bits binary32 (h / 32768 * 2147483648 + 1065353216)) ≡ float_of h
unfolding float_of size_of float_at chosen_of
chosen h H a b c =
    let parts : exponent_of h * 1024 + digits_of h ≡ h % 32768 = omega arith in
    rw (c, b, a, one_is (h / 32768) (omega arith))
    (ap (λ (n : ℕ). mul binary32 (chosen_of n) (fin (is_negative h) 1 (pos 0))) (sym parts) ∙ chosen_at (is_negative h) (exponent_of h) (digits_of h) (omega arith) (omega arith))
