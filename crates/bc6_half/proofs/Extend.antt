-- A shift to the left and a signed shift back extend the sign. Over every width p of 1 to 31 bits, with no case for each: with H = 2 ^ (p − 1)
-- and S = 2 ^ (32 − p), H S is 2 ^ 31. Assumes nothing.
use mathlib.Core.Path.{◌≡◌, sym, ap, subst, ◌∙◌}
use mathlib.Core.Bool.{Bool, true, false, not}
use Prim.Native.Nat.{ℕ, suc, ◌+◌, ◌-◌, ◌*◌, ◌/◌, ◌%◌, ◌^◌, ◌<◌, ◌≤◌}
use native.Mathlib.Nat.{mul-lt-mul_of_pos_right, mul-le-mul_right, add-mul, lt_of_lt_of_le}
use native.Mathlib.Omega.{arith}
use lib.Arith.{digits_div}
use lib.Dec.{T, ltb, ltb→lt, nltb→le}
use lib.Pow.{pow_pos, pow_mono, pow-add, shl_exact, shl-shr}
use lib.IntN.{ℤ, pos, negsuc, nat_abs, ◌-ℤ◌}
use lib.Signed.{shr_z}
use mir.Syntax.{w32}
use mir.Val.{SFits, to_z, of_z, sel}
use mir.ValLaws.{to_z-of_z, to_z_pos}
use borrow.Author.Tests.{le-ltb}
use Rattle.laws.proofs.Num.{minus}
use Rattle.laws.specs.Ranges.{Below}
use Rattle.laws.specs.Pick.{pick}
use Rattle.bc6h_spec.specs.Half.{sign_extend}

module _ (p n : ℕ) (low : 0 < p) (high : p ≤ 31) (h : n < 2 ^ p) where
  half : 2 ^ (p - 1) * 2 ^ (32 - p) ≡ 2147483648
  half = let e : (p - 1) + (32 - p) ≡ 31 = omega arith in sym (pow-add 2 (p - 1) (32 - p)) ∙ ap (λ (k : ℕ). 2 ^ k) e

  whole : 2 ^ p * 2 ^ (32 - p) ≡ 4294967296
  whole = let e : p + (32 - p) ≡ 32 = omega arith in sym (pow-add 2 p (32 - p)) ∙ ap (λ (k : ℕ). 2 ^ k) e

  shifted : (n * 2 ^ (32 - p)) % 4294967296 ≡ n * 2 ^ (32 - p)
  shifted = shl_exact p (32 - p) 32 h (omega arith)

  small : 2 ^ p ≤ 2147483648
  small = pow_mono {j = 31} high

  -- what the machine computes
  back : ℤ
  back = shr_z (to_z w32 (n * 2 ^ (32 - p))) (2 ^ (32 - p))

  not_neg : n < 2 ^ (p - 1) → back ≡ pos n
  unfolding back
  not_neg l =
      ap (λ (z : ℤ). shr_z z (2 ^ (32 - p)))
      (to_z_pos w32 (n * 2 ^ (32 - p)) (subst (λ (k : ℕ). n * 2 ^ (32 - p) < k) half (mul-lt-mul_of_pos_right l (pow_pos (32 - p)))))
      ∙ ap pos (shl-shr n (32 - p))

  quotient : (4294967296 - suc (n * 2 ^ (32 - p))) / 2 ^ (32 - p) ≡ 2 ^ p - suc n
  quotient =
      let q = 2 ^ p - suc n in
      let S = 2 ^ (32 - p) in
      let m : q + (n + 1) ≡ 2 ^ p = omega (arith, h) in
      let e : (q + (n + 1)) * S ≡ 4294967296 = ap (λ (k : ℕ). k * S) m ∙ whole in
      let f : q * S + (n * S + 1 * S) ≡ 4294967296 = simp add-mul at e in
      let g : 0 < S = pow_pos (32 - p) in
      let d : 4294967296 - suc (n * S) ≡ q * S + (S - 1) = omega (arith, f, g) in
      ap (λ (k : ℕ). k / S) d ∙ digits_div q (omega (arith, g))

  neg : 2 ^ (p - 1) ≤ n → back ≡ negsuc (2 ^ p - suc n)
  unfolding back
  neg l =
      ap (λ (t : Bool). shr_z (sel t (pos (n * 2 ^ (32 - p))) (negsuc (4294967296 - suc (n * 2 ^ (32 - p))))) (2 ^ (32 - p)))
      (le-ltb _ _ (subst (λ (k : ℕ). k ≤ n * 2 ^ (32 - p)) half (mul-le-mul_right (2 ^ (32 - p)) l)))
      ∙ ap negsuc quotient

  by_test : (t : Bool) → (T t → n < 2 ^ (p - 1)) → (T (not t) → 2 ^ (p - 1) ≤ n) → (back ≡ pick t (pos n) (pos n -ℤ pos (2 ^ p))) × SFits w32 back
  by_test true f g = (not_neg (f tt), subst (SFits w32) (sym (not_neg (f tt))) (record { sfits = lt_of_lt_of_le h small }))
  by_test false f g =
      let l : 2 ^ p - suc n < 2147483648 = omega (arith, small, h) in
      (neg (g tt) ∙ sym (minus n (2 ^ p) h), subst (SFits w32) (sym (neg (g tt))) (record { sfits = l }))

  pub extends : to_z w32 (of_z w32 (shr_z (to_z w32 ((n * 2 ^ (32 - p)) % 4294967296)) (2 ^ (32 - p)))) ≡ sign_extend p n
  unfolding back sign_extend
  extends =
      let r = by_test (ltb n (2 ^ (p - 1))) (ltb→lt n (2 ^ (p - 1))) (nltb→le n (2 ^ (p - 1))) in
      rw shifted (to_z-of_z w32 back r.1 ∙ r.0)

-- at a number that the contract says is not below zero
pub extends_at : (p : ℕ) (x : ℤ) → 0 < p → p ≤ 31 → Below (2 ^ p) x → to_z w32 (of_z w32 (shr_z (to_z w32 ((of_z w32 x * 2 ^ (32 - p)) % 4294967296)) (2 ^ (32 - p)))) ≡ sign_extend p (nat_abs x)
extends_at p (pos n) l h b = extends p n l h b.below
extends_at p (negsuc n) l h b = absurd b.nonneg
