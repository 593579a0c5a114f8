-- The highest pattern, 0x7BFF in both formats, with its one exception. Assumes nothing.
use mathlib.Core.Path.{◌≡◌, refl, sym, ap, ◌∙◌}
use mathlib.Core.Bool.{Bool, true, false}
use Prim.Native.Nat.{ℕ, zero, suc, ◌*◌, ◌/◌, ◌%◌, ◌<◌, ◌≤◌}
use native.Mathlib.Omega.{arith}
use lib.Arith.{lt_of_le-ne}
use native.Mathlib.Decide.{ℕ_discrete}
use lib.Dec.{eqb}
use lib.IntN.{ℤ, pos, negsuc, neg_ℤ, nat_abs, ℤ_discrete}
use lib.Signed.{mag}
use borrow.Author.Tests.{ne_eqb}
use Rattle.laws.specs.Ranges.{InBits}
use Rattle.laws.proofs.Num.{abs_below}
use Rattle.bc6h_spec.specs.Half.{with_sign, highest_pattern, minus_infinity, finish_u, scaled, pattern, finish_s, finished, is_lowest}

-- unsigned: every pattern
finish_u_top : (n : ℕ) → n < 65536 → finish_u n ≤ highest_pattern
unfolding finish_u
finish_u_top n h = omega arith

pub unsigned_top : (x : ℤ) → InBits false 16 x → finished false x ≤ highest_pattern
unfolding finished
unsigned_top x r = finish_u_top (nat_abs x) (abs_below x r.sign r.inside)

-- the pattern of −m is 0 at 0 and 0x8000 + m above
negative : (m : ℕ) → m < 0x8000 → pattern (neg_ℤ (pos m)) % 0x8000 ≡ m
negative zero h = refl
negative (suc m) h = omega arith

-- signed: every magnitude but at −32768
pub signed_top : (x : ℤ) → InBits true 16 x → (x ≡ negsuc 32767 → ⊥) → finished true x % 0x8000 ≤ highest_pattern
unfolding finished finish_s scaled
signed_top (pos n) r e = omega (arith, r.inside)
signed_top (negsuc n) r e =
    let h : n < 32768 = r.inside in
    let k : n ≡ 32767 → ⊥ = λ q. e (ap negsuc q) in
    let l : n < 32767 = lt_of_le-ne (omega arith) k in
    rw (negative (31 * suc n / 32) (omega arith)) (omega arith)

-- signed: 0xFC00 exactly at −32768
pub exception : finished true (negsuc 32767) ≡ minus_infinity
unfolding finished finish_s scaled
exception = refl

pub exactly : (x : ℤ) → InBits true 16 x → finished true x ≡ minus_infinity → x ≡ negsuc 32767
exactly x r e = by (ℤ_discrete x (negsuc 32767))
  where
    by : Dec (x ≡ negsuc 32767) → x ≡ negsuc 32767
    by (yes p) = p
    by (no f) = let h : finished true x % 0x8000 ≤ highest_pattern = signed_top x r f in absurd (omega (arith, e, h))

-- minus infinity is told exactly where the pattern is 0xFC00
pub never_lowest : (x : ℤ) → is_lowest false x ≡ false
unfolding is_lowest
never_lowest (pos n) = refl
never_lowest (negsuc n) = refl

pub told_exactly : (signed : Bool) (x : ℤ) → InBits signed 16 x → is_lowest signed x ≡ eqb (finished signed x) minus_infinity
unfolding is_lowest finished finish_s scaled
told_exactly false x r =
    let h : finished false x ≤ highest_pattern = unsigned_top x r in
    never_lowest x ∙ sym (ne_eqb (finished false x) minus_infinity (λ e. omega (arith, e, h)))
told_exactly true (pos n) r = sym (ne_eqb (31 * n / 32) minus_infinity (λ e. omega (arith, e, r.inside)))
told_exactly true (negsuc n) r = by (ℕ_discrete n 32767)
  where
    by : Dec (n ≡ 32767) → is_lowest true (negsuc n) ≡ eqb (finished true (negsuc n)) minus_infinity
    by (yes e) = rw e refl
    by (no f) =
        ne_eqb n 32767 f
        ∙ sym (ne_eqb (finished true (negsuc n)) minus_infinity (λ e. f (let q = ap nat_abs (exactly (negsuc n) r e) in omega (arith, q))))

-- 0x8000 never occurs, in either format
pattern_not : (z : ℤ) → nat_abs z < 0x8000 → pattern z ≡ 0x8000 → ⊥
pattern_not (pos n) h e = omega arith
pattern_not (negsuc n) h e = omega arith

small : (m : ℕ) (z : ℤ) → nat_abs (with_sign z m) ≡ m
small m (pos n) = refl
small zero (negsuc n) = refl
small (suc m) (negsuc n) = refl

mag_abs : (x : ℤ) → mag x < 32768 → 31 * nat_abs x / 32 < 0x8000
mag_abs (pos n) h = omega arith
mag_abs (negsuc n) h = omega arith

pub no_minus_zero : (s : Bool) (x : ℤ) → InBits s 16 x → finished s x ≡ 0x8000 → ⊥
unfolding finished finish_s scaled
no_minus_zero true x r e = pattern_not (with_sign x (31 * nat_abs x / 32)) (rw (small (31 * nat_abs x / 32) x) (mag_abs x r.inside)) e
no_minus_zero false x r e = let h : finished false x ≤ highest_pattern = unsigned_top x r in omega (arith, h, e)
