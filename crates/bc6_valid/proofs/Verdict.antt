-- What each check of `is_valid` shows. Assumes nothing.
use mathlib.Core.Path.{◌≡◌, ◌∙◌, refl, sym, ap, subst}
use mathlib.Core.Bool.{Bool, true, false}
use Prim.Native.Nat.{ℕ, ◌^◌, ◌≤◌, ◌<◌}
use native.Mathlib.Omega.{arith}
use lib.Dec.{T, ltb, ltb→lt}
use lib.ListN.{length, get_or}
use borrow.Author.Tests.{le-leb, eq-eqb}
use Rattle.laws.specs.Every.{below}
use Rattle.laws.proofs.Search.{holds, is_false}
use Rattle.bc6h_spec.specs.declared.Fields.{Fields}
use Rattle.bc6h_spec.specs.Layout.{width}
use Rattle.bc6h_spec.specs.Regions.{region1_of}
use Rattle.bc6h_spec.specs.Fields.{index_of, Valid}
use Rattle.bc6h_spec.proofs.Modes.{partition_width}
use Rattle.bc6_valid.specs.Validity.{endpoint_fits, index_fits, valid}
use Rattle.bc6_valid.specs.Sizes.{second_fixup, index_size}
use Rattle.laws.proofs.Below.{below_all}
use Rattle.bc6_valid.proofs.Sizes.{stored_size_lem}
use Rattle.bc6_valid.proofs.Validity.{sound, each_end, part_fits}

module _ (f : Fields) where
  -- ---- one number

  pub end_tested : (place : ℕ) {w : ℕ} {r : Bool} → w ≡ width f.mode place → r ≡ ltb (get_or f.endpoints place 0) (2 ^ w) → r ≡ endpoint_fits f place
  unfolding endpoint_fits
  end_tested place e q = q ∙ ap (λ (w : ℕ). ltb (get_or f.endpoints place 0) (2 ^ w)) e

  pub index_tested : (pixel : ℕ) {fixup w : ℕ} {r : Bool} → fixup ≡ second_fixup f.mode f.partition → w ≡ index_size f.mode fixup pixel
      → r ≡ ltb (index_of f pixel) (2 ^ w) → r ≡ index_fits f pixel
  unfolding index_fits
  index_tested pixel g e q =
      q ∙ ap (λ (w : ℕ). ltb (index_of f pixel) (2 ^ w))
      (e ∙ ap (λ (x : ℕ). index_size f.mode x pixel) g ∙ sym (stored_size_lem f.mode f.partition pixel))

  -- ---- the record

  refused : (Valid f → ⊥) → false ≡ valid f
  refused h = sym (is_false (valid f) (λ t. h (sound f t)))

  pub other_format : 1 < f.format → false ≡ valid f
  other_format h = refused (λ v. omega (arith, v.format_known))

  pub mode_below : f.mode < 1 → false ≡ valid f
  mode_below h = refused (λ v. omega (arith, v.mode_first))

  pub mode_above : 14 < f.mode → false ≡ valid f
  mode_above h = refused (λ v. omega (arith, v.mode_last))

  pub wide_endpoint : {r : Bool} → r ≡ below (endpoint_fits f) 12 → r ≡ false → false ≡ valid f
  wide_endpoint q e = refused (λ v. subst T (sym q ∙ e) (below_all (endpoint_fits f) 12 (each_end f v)))

  pub wide_partition : {r : Bool} → r ≡ ltb f.partition (2 ^ width f.mode 13) → r ≡ false → false ≡ valid f
  wide_partition q e = refused (λ v. subst T (sym q ∙ e) (part_fits f v))

  pub partition_known : {r : Bool} → r ≡ ltb f.partition (2 ^ width f.mode 13) → r ≡ true → f.partition < 32
  partition_known q e = partition_width f.mode f.partition (ltb→lt _ _ (holds (sym q ∙ e)))

  pub other_count : {n : ℕ} → n ≡ region1_of f.mode f.partition → (f.region1 ≡ n → ⊥) → false ≡ valid f
  other_count e h = refused (λ v. h (v.counted ∙ sym e))

  -- where no check refuses, the indices decide
  pub decided : f.format ≤ 1 → 1 ≤ f.mode → f.mode ≤ 14 → length f.endpoints ≡ 12 → length f.indices ≡ 16
      → {a b r : Bool} {n : ℕ} → a ≡ below (endpoint_fits f) 12 → a ≡ true → b ≡ ltb f.partition (2 ^ width f.mode 13) → b ≡ true
      → n ≡ region1_of f.mode f.partition → f.region1 ≡ n → r ≡ below (index_fits f) 16 → r ≡ valid f
  unfolding valid
  decided k low high le li qa a qb b qn n q =
      q
      ∙ sym
      (rw
      (le-leb f.format 1 k, le-leb 1 f.mode low, le-leb f.mode 14 high, eq-eqb (length f.endpoints) 12 le, sym qa ∙ a, sym qb ∙ b, eq-eqb f.region1 (region1_of f.mode f.partition) (n ∙ qn), eq-eqb (length f.indices) 16 li)
      refl)

  -- what the answer tells
  pub is_known : {r : Bool} → r ≡ valid f → r ≡ true → Valid f
  is_known e t = sound f (holds (sym e ∙ t))
