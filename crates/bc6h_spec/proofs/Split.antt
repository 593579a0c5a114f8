-- The partition is a two-region row's last five bits: bits 77 to 81 are the partition, and the endpoints are in those before them.
-- Assumes nothing.
use mathlib.Core.Path.{◌≡◌, refl, sym, ap, ◌∙◌}
use mathlib.Core.Bool.{Bool, not}
use mathlib.Core.List.{List, [], ◌∷◌, ◌++◌}
use Prim.Native.Nat.{ℕ, ◌+◌, ◌*◌, ◌/◌, ◌%◌, ◌^◌, ◌≤◌, ◌<◌}
use native.Mathlib.Nat.{div-one, zero-add}
use native.Mathlib.Numerals.{one-add}
use native.Mathlib.Omega.{arith}
use lib.Dec.{T, eqb, T_not}
use lib.ListN.{length, take}
use lib.Pow.{shr-shr}
use lib.Seq.{length-take-le}
use borrow.Author.Tests.{ne_eqb, le-leb}
use Rattle.laws.specs.Pick.{pick, both}
use Rattle.laws.specs.Every.{below, every, same}
use Rattle.laws.proofs.Tests.{both_left, both_right, upto_at, same_eq}
use Rattle.laws.proofs.Search.{is_false}
use Rattle.bc6h_spec.specs.Layout.{row, rows, row1, row2, row3, row4, row5, row6, row7, row8, row9, row10, D}
use Rattle.bc6h_spec.specs.Fields.{gathered}
use Rattle.bc6h_spec.proofs.Gather.{low_only}
use Rattle.bc6h_spec.proofs.Once.{row_once}

-- what is gathered by codes that follow others
gathered_joined : (a b : List ℕ) (n p : ℕ) → gathered (a ++ b) n p ≡ gathered a n p + gathered b (n / 2 ^ length a) p
unfolding gathered
gathered_joined [] b n p = rw (div-one n) (omega arith)
gathered_joined (c ∷ cs) b n p = rw (gathered_joined cs b (n / 2) p, shr-shr n 1 (length cs), one-add (length cs)) (omega arith)

-- a place that no code names
abbrev spares : ℕ → ℕ → Bool
spares p code = not (eqb (code / 16) p)

gathered_none : (l : List ℕ) (n p : ℕ) → T (every (spares p) l) → gathered l n p ≡ 0
unfolding gathered
gathered_none [] n p t = refl
gathered_none (c ∷ cs) n p t =
    rw (is_false (eqb (c / 16) p) (T_not (eqb (c / 16) p) (both_left (spares p c) _ t)), gathered_none cs (n / 2) p (both_right (spares p c) _ t)) refl

abbrev ends? : ℕ → Bool
ends? m = both (same (row m) (take 77 (row m) ++ D 4 0)) (every (spares 13) (take 77 (row m)))

all_end : T (below (λ j. ends? (j + 1)) 10)
unfolding rows row1 row2 row3 row4 row5 row6 row7 row8 row9 row10
all_end = tt

module _ (m : ℕ) (low : 1 ≤ m) (high : m ≤ 10) where
  ends : T (ends? m)
  ends = upto_at ends? 10 m all_end low high

  split : row m ≡ take 77 (row m) ++ D 4 0
  split = same_eq _ _ (both_left (same (row m) (take 77 (row m) ++ D 4 0)) _ ends)

  size : length (take 77 (row m)) ≡ 77
  size =
      let whole : length (row m) ≡ 82 = (row_once m low (omega arith)).size ∙ ap (λ (t : Bool). pick t 82 65) (le-leb m 10 high) in
      length-take-le 77 (row m) (omega (arith, whole))

  parts : (n p : ℕ) → gathered (row m) n p ≡ gathered (take 77 (row m)) n p + gathered (D 4 0) (n / 2 ^ 77) p
  parts n p =
      ap (λ (l : List ℕ). gathered l n p) split ∙ gathered_joined (take 77 (row m)) (D 4 0) n p
      ∙ ap (λ (k : ℕ). gathered (take 77 (row m)) n p + gathered (D 4 0) (n / 2 ^ k) p) size

  no_endpoint : (n p : ℕ) → p < 12 → gathered (D 4 0) n p ≡ 0
  unfolding gathered
  no_endpoint n p h = rw (ne_eqb 13 p (λ e. omega arith)) refl

  -- an endpoint is told by the lowest 77 bits
  pub endpoint_low : (n k p : ℕ) → p < 12 → n % 2 ^ 77 ≡ k % 2 ^ 77 → gathered (row m) n p ≡ gathered (row m) k p
  endpoint_low n k p h e =
      parts n p ∙ ap (λ (x : ℕ). gathered (take 77 (row m)) n p + x) (no_endpoint (n / 2 ^ 77) p h)
      ∙ ap (λ (x : ℕ). x + 0) (sym (kept n) ∙ ap (λ (x : ℕ). gathered (take 77 (row m)) x p) e ∙ kept k)
      ∙ sym (parts k p ∙ ap (λ (x : ℕ). gathered (take 77 (row m)) k p + x) (no_endpoint (k / 2 ^ 77) p h))
    where
      kept : (x : ℕ) → gathered (take 77 (row m)) (x % 2 ^ 77) p ≡ gathered (take 77 (row m)) x p
      kept x = ap (λ (j : ℕ). gathered (take 77 (row m)) (x % 2 ^ j) p) (sym size) ∙ low_only (take 77 (row m)) x p

  five_bits : (x q r : ℕ) → x ≡ q + 32 * r → q < 32 → gathered (D 4 0) x 13 ≡ q
  unfolding gathered
  five_bits x q r e h = omega arith

  -- and the partition by the next five
  pub partition_next : (n q r : ℕ) → n / 2 ^ 77 ≡ q + 32 * r → q < 32 → gathered (row m) n 13 ≡ q
  partition_next n q r e h =
      parts n 13
      ∙ ap (λ (x : ℕ). x + gathered (D 4 0) (n / 2 ^ 77) 13) (gathered_none (take 77 (row m)) n 13 (both_right (same (row m) (take 77 (row m) ++ D 4 0)) _ ends))
      ∙ zero-add (gathered (D 4 0) (n / 2 ^ 77) 13) ∙ five_bits (n / 2 ^ 77) q r e h
