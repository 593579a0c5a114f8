-- What the calls on a channel's numbers ask, and what they give. Assumes nothing.
use mathlib.Core.Path.{◌≡◌, ◌∙◌, sym, ap, subst}
use mathlib.Core.Bool.{Bool, true, false}
use mathlib.Core.List.{List, [], ◌∷◌}
use Prim.Native.Nat.{ℕ, ◌^◌, ◌≤◌, ◌<◌}
use native.Mathlib.Omega.{arith}
use lib.Dec.{lit<, lit≤}
use lib.IntN.{ℤ, pos, nat_abs}
use lib.Pow.{pow_mono}
use lib.Signed.{mag, pos-nat_abs}
use mir.Syntax.{w32}
use mir.Val.{to_z, of_z}
use mir.ValLaws.{to_z-of_z}
use Rattle.laws.specs.Ranges.{Below, Within, InBits}
use Rattle.laws.proofs.Num.{abs_below, read}
use Rattle.laws.proofs.Below.{below_four}
use Rattle.bc6h_spec.specs.Half.{sign_extend, transform, unquantized, unquantize_u}
use Rattle.bc6h_spec.specs.Picture.{delta}
use Rattle.bc6h_spec.proofs.Ranges.{delta_within, transformed_in}
use Rattle.bc6_endpoints.specs.Ends.{whole_of, moved_of, end_of, end_from, end_at, stored_in, Apart, Channel, ChannelEnds, StoredWhole, WholeEnds}
use Rattle.bc6_endpoints.proofs.Adding.{moved_is, unmoved, from_zero}

-- ---- numbers of a few bits

module _ {k : ℕ} {z : ℤ} (b : Below k z) where
  pub whole_number : z ≡ pos (nat_abs z)
  whole_number = sym (pos-nat_abs z b.nonneg)

  pub size : nat_abs z < k
  size = abs_below z b.nonneg b.below

  -- as a callee reads it
  pub back : k ≤ 65536 → to_z w32 (of_z w32 z) ≡ z
  back h = to_z-of_z w32 z (record { sfits = omega (arith, b.below) })

bits_16 : (p : ℕ) → p ≤ 16 → 2 ^ p ≤ 65536
bits_16 p h = pow_mono {i = p} {j = 16} h

-- ---- an end

module _ {p w : ℕ} {base x : ℤ} (a : Apart p w base x) where
  wide_p : 2 ^ p ≤ 65536
  wide_p = bits_16 p (omega (arith, a.narrow.most))

  wide_w : 2 ^ w ≤ 65536
  wide_w = bits_16 w (omega (arith, a.narrow.most, a.narrow.own))

  pub base_back : to_z w32 (of_z w32 base) ≡ base
  base_back = back a.whole wide_p

  pub field_back : to_z w32 (of_z w32 x) ≡ x
  field_back = back a.few wide_w

  module _ (d : ℤ) (ok : mag d < 2147483648) (told : d ≡ sign_extend w (nat_abs (to_z w32 (of_z w32 x)))) where
    pub difference : to_z w32 (of_z w32 d) ≡ sign_extend w (nat_abs x)
    difference = read ok (told ∙ ap (λ (z : ℤ). sign_extend w (nat_abs z)) field_back)

    pub transform_asks : (0 < p) × (p ≤ 16) × (Within 65536 (to_z w32 (of_z w32 base)) × Within 65536 (to_z w32 (of_z w32 d)))
    unfolding delta
    transform_asks = (
      omega (arith, a.narrow.some, a.narrow.own),
      omega (arith, a.narrow.most),
      (
        subst (Within 65536) (sym base_back) (record { inside = omega (arith, a.whole.below, wide_p) }),
        subst (Within 65536) (sym difference)
            (delta_within true true w (nat_abs x) a.narrow.some (omega (arith, a.narrow.most, a.narrow.own)) (size a.few)),
      ),
    )

    module _ (s : Bool) (t : ℤ) (fine : mag t < 2147483648) (sum : t ≡ transform s p (to_z w32 (of_z w32 base)) (to_z w32 (of_z w32 d))) where
      pub moved : to_z w32 (of_z w32 t) ≡ transform s p base (sign_extend w (nat_abs x))
      moved = read fine (sum ∙ (λ i. transform s p (base_back i) (difference i)))

      pub inside : InBits s p (to_z w32 (of_z w32 t))
      inside = subst (InBits s p) (sym moved) (transformed_in s p base (sign_extend w (nat_abs x)) (omega (arith, a.narrow.some, a.narrow.own)))

      -- as the branch of its format has it
      pub end_is : {b : Bool} → s ≡ b → (r : ℤ) → mag r < 2147483648 → r ≡ unquantized b p (to_z w32 (of_z w32 t)) → to_z w32 (of_z w32 r) ≡ end_of s p w base x
      unfolding end_of
      end_is f r l e = read l (e ∙ (λ i. unquantized (sym f i) p (moved i)))

-- unsigned, as its callee asks and tells
pub narrow_asks : {p : ℕ} {z : ℤ} → 0 < p → p < 15 → InBits false p z → (0 < p) × (p < 15) × Below (2 ^ p) z
narrow_asks l h b = (l, h, record { nonneg = b.sign; below = b.inside })

pub narrow_told : (p : ℕ) (z r : ℤ) → r ≡ pos (unquantize_u p (nat_abs z)) → r ≡ unquantized false p z
unfolding unquantized
narrow_told p z r e = e

-- ---- a channel whose ends are differences

module _ {p w : ℕ} {n : List ℤ} (k : Channel p w n) where
  other : (e : ℕ) → e < 4 → 1 ≤ e → Below (2 ^ w) (end_at n e)
  other = below_four (λ e. 1 ≤ e → Below (2 ^ w) (end_at n e)) (λ l. absurd (omega arith)) (λ l. k.second) (λ l. k.third) (λ l. k.fourth)

  few_p : 2 ^ p ≤ 65536
  few_p = bits_16 p (omega (arith, k.narrow.most))

  few_w : 2 ^ w ≤ 65536
  few_w = bits_16 w (omega (arith, k.narrow.most, k.narrow.own))

  base_is : to_z w32 (of_z w32 (end_at n 0)) ≡ pos (stored_in n 0)
  base_is = back k.first few_p ∙ whole_number k.first

  other_is : (e : ℕ) → 1 ≤ e → e < 4 → to_z w32 (of_z w32 (end_at n e)) ≡ pos (stored_in n e)
  other_is e l h = back (other e h l) few_w ∙ whole_number (other e h l)

  module _ (s : Bool) where
    first_done : (r : ℤ) → r ≡ end_of s p w (to_z w32 (of_z w32 (end_at n 0))) (pos 0) → r ≡ whole_of s p (stored_in n 0)
    first_done r e = e ∙ ap (λ (z : ℤ). end_of s p w z (pos 0)) base_is ∙ unmoved s p w (stored_in n 0) (size k.first)

    other_done : (e : ℕ) → 1 ≤ e → e < 4 → (r : ℤ) → r ≡ end_of s p w (to_z w32 (of_z w32 (end_at n 0))) (to_z w32 (of_z w32 (end_at n e))) → r ≡ moved_of s p w (stored_in n 0) (stored_in n e)
    other_done e l h r q = q ∙ (λ i. end_of s p w (base_is i) (other_is e l h i)) ∙ moved_is p w (stored_in n e) k.narrow.own s (stored_in n 0)

    pub moved_done : {a b c d : ℤ} → a ≡ end_of s p w (to_z w32 (of_z w32 (end_at n 0))) (pos 0)
        → b ≡ end_of s p w (to_z w32 (of_z w32 (end_at n 0))) (to_z w32 (of_z w32 (end_at n 1)))
        → c ≡ end_of s p w (to_z w32 (of_z w32 (end_at n 0))) (to_z w32 (of_z w32 (end_at n 2)))
        → d ≡ end_of s p w (to_z w32 (of_z w32 (end_at n 0))) (to_z w32 (of_z w32 (end_at n 3))) → ChannelEnds s p w n (a ∷ b ∷ c ∷ d ∷ [])
    moved_done {a} {b} {c} {d} ea eb ec ed =
        record {
          each =
              below_four (λ e. end_at (a ∷ b ∷ c ∷ d ∷ []) e ≡ end_from s p w (stored_in n) e) (first_done a ea) (other_done 1 (lit≤ tt) (lit< tt) b eb)
              (other_done 2 (lit≤ tt) (lit< tt) c ec) (other_done 3 (lit≤ tt) (lit< tt) d ed);
        }

-- ---- a channel that is stored whole

module _ {p : ℕ} {n : List ℤ} (k : StoredWhole p n) where
  each : (e : ℕ) → e < 4 → Below (2 ^ p) (end_at n e)
  each = below_four (λ e. Below (2 ^ p) (end_at n e)) k.first k.second k.third k.fourth

  few_bits : 2 ^ p ≤ 65536
  few_bits = bits_16 p (omega (arith, k.narrow.most))

  module _ (s : Bool) where
    one_done : (e : ℕ) → e < 4 → (r : ℤ) → r ≡ end_of s p p (pos 0) (to_z w32 (of_z w32 (end_at n e))) → r ≡ whole_of s p (stored_in n e)
    one_done e h r q = q ∙ ap (end_of s p p (pos 0)) (back (each e h) few_bits ∙ whole_number (each e h)) ∙ from_zero s p (stored_in n e) (size (each e h))

    pub whole_done : {a b c d : ℤ} → a ≡ end_of s p p (pos 0) (to_z w32 (of_z w32 (end_at n 0))) → b ≡ end_of s p p (pos 0) (to_z w32 (of_z w32 (end_at n 1)))
        → c ≡ end_of s p p (pos 0) (to_z w32 (of_z w32 (end_at n 2))) → d ≡ end_of s p p (pos 0) (to_z w32 (of_z w32 (end_at n 3))) → WholeEnds s p n (a ∷ b ∷ c ∷ d ∷ [])
    whole_done {a} {b} {c} {d} ea eb ec ed =
        record {
          each =
              below_four (λ e. end_at (a ∷ b ∷ c ∷ d ∷ []) e ≡ whole_of s p (stored_in n e)) (one_done 0 (lit< tt) a ea) (one_done 1 (lit< tt) b eb)
              (one_done 2 (lit< tt) c ec) (one_done 3 (lit< tt) d ed);
        }
