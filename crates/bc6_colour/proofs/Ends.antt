-- An endpoint's colour: what the callees ask of a valid record, channel by channel, and what they give. Assumes nothing.
use mathlib.Core.Path.{◌≡◌, ◌∙◌, refl, ap, subst}
use mathlib.Core.Bool.{Bool, true, false}
use Prim.Native.Nat.{ℕ, ◌+◌, ◌-◌, ◌*◌, ◌^◌, ◌<◌, ◌≤◌}
use native.Mathlib.Nat.{le_trans}
use native.Mathlib.Omega.{arith}
use lib.Dec.{lit<}
use lib.IntN.{ℤ}
use lib.ListN.{get_or}
use lib.Pow.{pow_mono}
use borrow.Author.Tests.{ne_eqb}
use Rattle.laws.specs.Ranges.{Within, InBits}
use Rattle.bc6h_spec.specs.declared.Fields.{Fields}
use Rattle.bc6h_spec.specs.Layout.{precision, own_width}
use Rattle.bc6h_spec.specs.Fields.{Valid}
use Rattle.bc6h_spec.specs.Picture.{first_end, other_end, endpoint}
use Rattle.bc6h_spec.proofs.Widths.{known, first_fits, other_fits}
use Rattle.bc6h_spec.proofs.Shown.{endpoint_in}
use Rattle.bc6_mode.specs.declared.ModeBits.{ModeBits}
use Rattle.bc6_colour.specs.declared.Colour.{Colour}
use Rattle.bc6_mode.specs.Modes.{bits_for}
use Rattle.bc6_colour.specs.Colours.{end_of, OfBits}

-- a number of at most 16 bits
wider : (s : Bool) (p : ℕ) (z : ℤ) → p ≤ 16 → InBits s p z → Within 65536 z
wider true p z h r = let l : 2 ^ (p - 1) ≤ 2 ^ 15 = pow_mono {j = 15} (omega arith) in record { inside = omega (arith, l, r.inside) }
wider false p z h r = let l : 2 ^ p ≤ 2 ^ 16 = pow_mono {j = 16} h in record { inside = omega (arith, l, r.inside) }

-- a colour by its three numbers
pub colour_is : {x y : Colour} → x.r ≡ y.r → x.g ≡ y.g → x.b ≡ y.b → x ≡ y
colour_is r g b = λ i. record { r = r i; g = g i; b = b i }

module _ (s : Bool) (f : Fields) (v : Valid f) (bits : ModeBits) (told : bits ≡ bits_for f.mode) where
  pub a0_is : bits.a0 ≡ precision f.mode
  unfolding bits_for
  a0_is = ap (λ (b : ModeBits). b.a0) told

  a0_some : 0 < bits.a0
  a0_some = rw a0_is (known f v).some

  a0_most : bits.a0 ≤ 16
  a0_most = rw a0_is (known f v).most

  pub first_asks : (c : ℕ) → c < 3 → (0 < bits.a0) × (bits.a0 ≤ 16) × (get_or f.endpoints c 0 < 2 ^ bits.a0)
  first_asks c h =
      let zero_at : 3 * 0 + c ≡ c = omega arith in
      (a0_some, a0_most, rw a0_is (subst (λ (x : ℕ). get_or f.endpoints x 0 < 2 ^ precision f.mode) zero_at (first_fits f v c h)))

  pub first_is : (c : ℕ) (z : ℤ) → z ≡ first_end s bits.a0 (get_or f.endpoints c 0) → z ≡ endpoint s f 0 c
  unfolding endpoint
  first_is c z e = let zero_at : c ≡ 3 * 0 + c = omega arith in e ∙ (λ i. first_end s (a0_is i) (get_or f.endpoints (zero_at i) 0))

  -- an endpoint is a colour of `a0` bits
  end_in_lem : (e : ℕ) → e < 4 → OfBits s bits.a0 (end_of s f e)
  unfolding end_of
  end_in_lem e h =
      rw a0_is
      (record {
        red = endpoint_in s f v e 0 h (lit< tt);
        green = endpoint_in s f v e 1 h (lit< tt);
        blue = endpoint_in s f v e 2 h (lit< tt);
      })

  -- what unquantising asks of an endpoint
  pub end_asks : (e : ℕ) (a : Colour) → e < 4 → a ≡ end_of s f e → (0 < bits.a0) × (bits.a0 ≤ 16) × OfBits s bits.a0 a
  end_asks e a h ea = (a0_some, a0_most, rw ea (end_in_lem e h))

  -- what a palette asks of two endpoints
  pub palette_asks : (e₁ e₂ : ℕ) (a b : Colour) → e₁ < 4 → e₂ < 4 → a ≡ end_of s f e₁ → b ≡ end_of s f e₂
      → (0 < bits.a0) × (bits.a0 ≤ 16) × (OfBits s bits.a0 a × OfBits s bits.a0 b)
  palette_asks e₁ e₂ a b h₁ h₂ ea eb = (a0_some, a0_most, (rw ea (end_in_lem e₁ h₁), rw eb (end_in_lem e₂ h₂)))

  module _ (e c j w : ℕ) (low : 1 ≤ e) (high : e < 4) (hc : c < 3) (ej : j ≡ 3 * e + c) (ew : w ≡ own_width f.mode c) where
    pub other_asks : (first : ℤ) → first ≡ endpoint s f 0 c
        → ((0 < bits.a0) × (bits.a0 ≤ 16)) × ((0 < w) × (w ≤ 16) × (get_or f.endpoints j 0 < 2 ^ w)) × Within 65536 first
    other_asks first ef = (
      (a0_some, a0_most),
      (rw ew ((known f v).width_some c hc), rw ew (le_trans ((known f v).width_few c hc) (known f v).most), rw (ew, ej) (other_fits f v e c low high hc)),
      rw ef (wider s (precision f.mode) _ (known f v).most (endpoint_in s f v 0 c (lit< tt) hc)),
    )

    pub other_is : (first z : ℤ) → first ≡ endpoint s f 0 c → z ≡ other_end s bits.transformed bits.a0 w first (get_or f.endpoints j 0)
        → z ≡ endpoint s f e c
    unfolding endpoint bits_for
    other_is first z ef ez =
        let ne : e ≡ 0 → ⊥ = λ q. omega arith in
        ez ∙ (λ i. other_end s (told i).transformed (told i).a0 (ew i) (ef i) (get_or f.endpoints (ej i) 0)) ∙ rw (ne_eqb e 0 ne) refl
