-- The signed pattern of a number, by its magnitude. Assumes nothing.
use mathlib.Core.Path.{◌≡◌, refl, sym, ap, subst}
use mathlib.Core.Bool.{true, false}
use Prim.Native.Nat.{ℕ, zero, suc, ◌+◌, ◌*◌, ◌/◌, ◌<◌, ◌≤◌}
use native.Mathlib.Nat.{mul_comm}
use native.Mathlib.Omega.{arith}
use lib.Dec.{T}
use lib.IntN.{ℤ, pos, negsuc, neg_ℤ, nat_abs, ◌*ℤ◌}
use lib.Signed.{mag, shr_z, lt_z}
use borrow.Author.Tests.{ltb-false}
use Rattle.laws.proofs.Num.{abs_neg}
use Rattle.bc6h_spec.specs.Half.{with_sign, pattern, scaled, finish_s}

pub shrunk : (n : ℕ) → shr_z (pos n *ℤ pos 31) 32 ≡ pos (31 * n / 32)
shrunk n = ap (λ (k : ℕ). pos (k / 32)) (mul_comm n 31)

neg_pattern : (t : ℕ) → 0 < t → 32768 + t ≡ pattern (neg_ℤ (pos t))
neg_pattern zero h = absurd (omega arith)
neg_pattern (suc t) h = omega arith

-- below −1 the scaled magnitude is not 0, so the sign is there; at −1 and above it is not
pub low_pattern : (x : ℤ) → lt_z x (negsuc 0) ≡ true → 32768 + 31 * nat_abs x / 32 ≡ finish_s x
unfolding finish_s scaled
low_pattern (pos n) e = absurd (subst T (sym e) tt)
low_pattern (negsuc zero) e = absurd (subst T (sym e) tt)
low_pattern (negsuc (suc n)) e = neg_pattern (31 * suc (suc n) / 32) (omega arith)

pub high_pattern : (x : ℤ) → lt_z x (negsuc 0) ≡ false → 31 * nat_abs x / 32 ≡ finish_s x
unfolding finish_s scaled
high_pattern (pos n) e = refl
high_pattern (negsuc zero) e = refl
high_pattern (negsuc (suc n)) e = let l : suc n ≤ 0 = ltb-false 0 (suc n) e in absurd (omega arith)

pattern_le : (z : ℤ) → pattern z ≤ 32768 + nat_abs z
pattern_le (pos n) = omega arith
pattern_le (negsuc n) = omega arith

abs_sign : (x : ℤ) (m : ℕ) → nat_abs (with_sign x m) ≡ m
abs_sign (pos n) m = refl
abs_sign (negsuc n) m = abs_neg (pos m)

scaled_top : (x : ℤ) → mag x < 32768 → nat_abs (scaled x) ≤ 31744
unfolding scaled
scaled_top (pos n) h = omega arith
scaled_top (negsuc n) h = rw (abs_sign (negsuc n)) (omega arith)

pub finish_lt : (x : ℤ) → mag x < 32768 → finish_s x < 65536
unfolding finish_s
finish_lt x h = omega (arith, pattern_le (scaled x), scaled_top x h)
