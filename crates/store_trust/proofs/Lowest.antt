-- The lowest number of p bits, and colours that have it in a channel. Assumes nothing.
use mathlib.Core.Path.{◌≡◌, refl, sym, ◌∙◌}
use mathlib.Core.Bool.{Bool, true, false}
use Prim.Native.Nat.{ℕ, zero, suc, ◌-◌, ◌*◌, ◌^◌, ◌≤◌, ◌<◌}
use native.Mathlib.Decide.{ℕ_discrete}
use native.Mathlib.Omega.{arith}
use lib.Dec.{eqb}
use lib.IntN.{ℤ, pos, negsuc, neg_ℤ}
use lib.Pow.{pow_pos}
use lib.Signed.{lt_z, mag}
use borrow.Author.Tests.{eq-eqb, ne_eqb, lt-ltb, le-ltb}
use Rattle.laws.specs.Pick.{either}
use Rattle.laws.specs.Ranges.{InBits}
use Rattle.laws.specs.Search.{some}
use Rattle.laws.proofs.Tests.{picks}
use Rattle.laws.proofs.Search.{some_none, some_more, some_here, some_upto}
use Rattle.bc6h_spec.specs.declared.Fields.{Fields}
use Rattle.bc6h_spec.specs.Layout.{precision, two_regions}
use Rattle.bc6h_spec.specs.Fields.{Valid}
use Rattle.bc6h_spec.specs.Picture.{endpoint}
use Rattle.bc6_mode.specs.declared.ModeBits.{ModeBits}
use Rattle.bc6_colour.specs.declared.Colour.{Colour}
use Rattle.bc6_mode.specs.Modes.{bits_for}
use Rattle.bc6_colour.specs.Colours.{end_of}
use Rattle.bc6_colour.proofs.Ends.{a0_is}
use Rattle.store_copies.specs.Wide.{regions}
use Rattle.store_copies.specs.Trust.{is_least, least_end, has_least}
use Rattle.store_trust.specs.Least.{least_of, end_count}

-- of the numbers of p bits only the lowest is below −(2 ^ (p − 1) − 1)
pub below_top : (p : ℕ) (z : ℤ) → InBits true p z → lt_z z (neg_ℤ (pos (2 ^ (p - 1) - 1))) ≡ is_least p z
below_top p z r = go z (2 ^ (p - 1) - 1) (omega (arith, pow_pos (p - 1))) r.inside
  where
    at : (n k : ℕ) → suc k ≡ 2 ^ (p - 1) → n < 2 ^ (p - 1) → Dec (n ≡ k) → lt_z (negsuc n) (neg_ℤ (pos k)) ≡ eqb (suc n) (2 ^ (p - 1))
    at n zero e h d = sym (eq-eqb (suc n) (2 ^ (p - 1)) (omega arith))
    at n (suc k) e h (yes q) = lt-ltb k n (omega arith) ∙ sym (eq-eqb (suc n) (2 ^ (p - 1)) (omega arith))
    at n (suc k) e h (no q) = le-ltb k n (omega arith) ∙ sym (ne_eqb (suc n) (2 ^ (p - 1)) (λ u. q (omega arith)))

    above : (n k : ℕ) → lt_z (pos n) (neg_ℤ (pos k)) ≡ false
    above n zero = le-ltb n 0 (omega arith)
    above n (suc k) = refl

    go : (z : ℤ) (k : ℕ) → suc k ≡ 2 ^ (p - 1) → mag z < 2 ^ (p - 1) → lt_z z (neg_ℤ (pos k)) ≡ is_least p z
    go (pos n) k e h = above n k
    go (negsuc n) k e h = at n k e h (ℕ_discrete n k)

-- ---- an endpoint of a signed block

turned : (a b c : Bool) → either a (either b c) ≡ either c (either b (either a false))
turned true true true = refl
turned true true false = refl
turned true false true = refl
turned true false false = refl
turned false true true = refl
turned false true false = refl
turned false false true = refl
turned false false false = refl

module _ (f : Fields) (v : Valid f) (bits : ModeBits) (told : bits ≡ bits_for f.mode) (e : ℕ) (h : e < 4) (c : Colour) (end : c ≡ end_of true f e) where
  pub end_least : {r : Bool} → r ≡ least_of bits.a0 c → r ≡ least_end f e
  unfolding least_end some end_of
  end_least q =
      q ∙ (λ i. least_of (a0_is true f v bits told i) (end i))
      ∙ turned (is_least (precision f.mode) (endpoint true f e 0)) (is_least (precision f.mode) (endpoint true f e 1)) (is_least (precision f.mode) (endpoint true f e 2))

-- ---- the endpoints, one after the other

ends_few : (m : ℕ) → (2 ≤ 2 * regions m) × (2 * regions m ≤ 4)
ends_few m = picks (two_regions m) 2 1 (λ n. (2 ≤ 2 * n) × (2 * n ≤ 4)) (λ e. (omega arith, omega arith)) (λ e. (omega arith, omega arith))

module _ (f : Fields) where
  pub end_inside : (e n : ℕ) → n ≡ end_count f → e < n → e < 4
  end_inside e n q h = omega (arith, (ends_few f.mode).1)

  pub first_least : least_end f 0 ≡ true → true ≡ has_least f
  unfolding has_least
  first_least t = some_here (least_end f) _ 0 t (omega (arith, (ends_few f.mode).0))

  pub first_other : least_end f 0 ≡ false → some (least_end f) 1 ≡ false
  first_other t = some_more (least_end f) 0 (some_none (least_end f)) t

  pub some_end : (n : ℕ) → n ≡ end_count f → 1 ≤ n
  some_end n q = omega (arith, (ends_few f.mode).0)

  pub later_least : (e n : ℕ) → n ≡ end_count f → e < n → least_end f e ≡ true → true ≡ has_least f
  unfolding has_least
  later_least e n q h t = some_here (least_end f) _ e t (omega arith)

  pub none_least : (e n : ℕ) → n ≡ end_count f → some (least_end f) e ≡ false → e ≤ n → n ≤ e → false ≡ has_least f
  unfolding has_least
  none_least e n q t low high = some_upto (least_end f) _ e t (omega arith) (omega arith)
