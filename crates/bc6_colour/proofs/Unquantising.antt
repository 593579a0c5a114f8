-- What unquantising comes to, case by case; what a test on ℤ tells of a magnitude. Assumes nothing.
use mathlib.Core.Path.{◌≡◌, refl, subst}
use mathlib.Core.Bool.{Bool, true, false}
use Prim.Native.Nat.{ℕ, ◌+◌, ◌-◌, ◌*◌, ◌/◌, ◌^◌, ◌<◌, ◌≤◌}
use native.Mathlib.Omega.{arith}
use lib.Dec.{T, leb, eqb}
use lib.IntN.{ℤ, pos, negsuc, neg_ℤ, nat_abs}
use lib.Signed.{non_neg, lt_z, le_z}
use mir.Syntax.{w32}
use mir.Val.{of_z}
use borrow.Author.Tests.{ltb-true, le-leb, ne_eqb}
use Rattle.bc6h_spec.specs.Half.{with_sign, unquantize_u, unquantize_m}

-- ---- what a test on ℤ tells of a magnitude
pub le_nat : (k : ℕ) (m : ℤ) {t : Bool} → T (non_neg m) → le_z (pos k) m ≡ t → leb k (nat_abs m) ≡ t
le_nat k (pos n) s e = e
le_nat k (negsuc n) s e = absurd s

pub nonzero : (m : ℤ) → T (non_neg m) → (of_z w32 m ≡ 0 → ⊥) → eqb (nat_abs m) 0 ≡ false
nonzero (pos n) s h = ne_eqb n 0 h
nonzero (negsuc n) s h = absurd s

pub is_zero : (m : ℤ) → T (non_neg m) → of_z w32 m ≡ 0 → nat_abs m ≡ 0
is_zero (pos n) s h = h
is_zero (negsuc n) s h = absurd s

-- ---- unquantise, unsigned
pub u_u_wide : (p n : ℕ) → 15 ≤ p → unquantize_u p n ≡ n
unfolding unquantize_u
u_u_wide p n h = simp (le-leb 15 p h)

-- ---- unquantise, signed
pub u_m_zero : (p n : ℕ) → n ≡ 0 → unquantize_m p n ≡ 0
unfolding unquantize_m
u_m_zero p n e = simp e

pub u_m_top : (p n : ℕ) → eqb n 0 ≡ false → leb (2 ^ (p - 1) - 1) n ≡ true → unquantize_m p n ≡ 32767
unfolding unquantize_m
u_m_top p n z e = simp (z, e)

pub u_m_mid : (p n : ℕ) → eqb n 0 ≡ false → leb (2 ^ (p - 1) - 1) n ≡ false → unquantize_m p n ≡ (32768 * n + 16384) / 2 ^ (p - 1)
unfolding unquantize_m
u_m_mid p n z e = simp (z, e)

-- ---- the sign
pub sign_neg : (c : ℤ) (m : ℕ) → lt_z c (pos 0) ≡ true → with_sign c m ≡ neg_ℤ (pos m)
sign_neg (pos n) m e = let l : n < 0 = ltb-true n 0 e in absurd (omega arith)
sign_neg (negsuc n) m e = refl

pub sign_pos : (c : ℤ) (m : ℕ) → lt_z c (pos 0) ≡ false → with_sign c m ≡ pos m
sign_pos (pos n) m e = refl
sign_pos (negsuc n) m e = absurd (subst T e tt)
