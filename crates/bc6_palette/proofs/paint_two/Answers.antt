-- `bc6_palette::paint_two` meets its contract: a turn stores the next pixel, by its region. Assumes nothing.
use borrow.Author.Rules.{rules}
use borrow.Author.Tests.{eq-eqb, ne_eqb}
use mathlib.Core.Path.{◌≡◌, refl}
use mathlib.Core.List.{List, []}
use Prim.Native.Nat.{ℕ}
use native.Mathlib.Omega.{arith}
use lib.ListN.{get_or}
use Rattle.laws.specs.Bit.{bit}
use Rattle.laws.proofs.Rows.{made_none, made_store}
use Rattle.bc6_half.specs.declared.Half.{Half}
use Rattle.bc6_palette.specs.Triples.{one_pixel, two_pixel}
use Rattle.bc6_palette.proofs.paint_two.Goals.{then-get_subset_index-eq0, else-get_subset_index-eq0}
use Rattle.bc6_palette.proofs.paint_two.Goals as goal

module _ (p₀ p₁ : List (List Half)) (map k region : ℕ) (indices : List ℕ) (e : region ≡ bit map k) where
  in_region_0 : region ≡ 0 → get_or p₀ (get_or indices k 0) [] ≡ two_pixel p₀ p₁ map indices k
  unfolding two_pixel one_pixel
  in_region_0 z = rw (← e, eq-eqb region 0 z) refl

  in_region_1 : (region ≡ 0 → ⊥) → get_or p₁ (get_or indices k 0) [] ≡ two_pixel p₀ p₁ map indices k
  unfolding two_pixel one_pixel
  in_region_1 n = rw (← e, ne_eqb region 0 n) refl

pub loop-k-init : goal.loop-k-init
loop-k-init c = (search rules, made_none _ _)

pub loop-k-preserved : goal.loop-k-preserved
loop-k-preserved c =
    let l = c.loop-k in
    let r = c.get_subset_index.ensures in (
      search rules,
      elim c.if-get_subset_index-eq0.branch [
        | then-get_subset_index-eq0 w ↦ made_store _ _ _ _ _ _ l.invariant.1 w.picture-is (in_region_0 _ _ _ _ _ _ r w.if-get_subset_index-eq0.true) (omega arith)
        | else-get_subset_index-eq0 w ↦ made_store _ _ _ _ _ _ l.invariant.1 w.picture-is (in_region_1 _ _ _ _ _ _ r w.if-get_subset_index-eq0.false) (omega arith)
      ],
    )
