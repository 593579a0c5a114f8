-- How a premise is shown to be needed: by two different blocks that meet every other premise and show one picture. Assumes nothing.
use mathlib.Core.Path.{◌≡◌, subst}
use mathlib.Core.Bool.{Bool, not}
use mathlib.Core.List.{List}
use Prim.Native.Nat.{ℕ, ◌<◌}
use lib.Dec.{T, eqb, T_not}
use lib.ListN.{length, get_or}
use borrow.Author.Tests.{ne_eqb}
use Rattle.laws.specs.Pick.{both, either}
use Rattle.laws.specs.Every.{below, every, same}
use Rattle.laws.proofs.Tests.{both_left, both_right, either_right, below_at, same_eq}
use Rattle.laws.proofs.Search.{every_at, same_self}
use Rattle.bc6h_spec.specs.Picture.{is_signed}
use Rattle.bc6h_spec.specs.Block.{pixels_of}

-- two blocks, each in its format
pub record Pair : Type 0 where
  pub format : ℕ
  pub x : List ℕ
  pub other : ℕ
  pub y : List ℕ

-- a premise on a pair, in words, and a test that shows it
pub record Premise : Type 1 where
  pub Met : Pair → Type 0
  pub test : Pair → Bool
  pub shows : (p : Pair) → T (test p) → Met p

-- what is asked of each of the two, in its format
abbrev pub each : (Met : ℕ → List ℕ → Type 0) (test : ℕ → List ℕ → Bool) → ((n : ℕ) (b : List ℕ) → T (test n b) → Met n b) → Premise
each Met test shows =
    record {
      Met = λ p. Met p.format p.x × Met p.other p.y;
      test = λ p. both (test p.format p.x) (test p.other p.y);
      shows = λ p t. (
        shows p.format p.x (both_left (test p.format p.x) _ t),
        shows p.other p.y (both_right (test p.format p.x) _ t),
      );
    }

-- two blocks that show one picture are one block, if what is claimed holds of them
abbrev pub Claim : (Pair → Type 0) → Type 0
Claim Holds = (p : Pair) → Holds p → pixels_of (is_signed p.format) p.x ≡ pixels_of (is_signed p.other) p.y → p.x ≡ p.y

-- a pair against premise k: it meets every other one; its blocks show one picture, and differ
pub record Row : Type 0 where
  pub against : ℕ
  pub pair : Pair

module _ (premises : List Premise) (none : Premise) where
  abbrev pub Without : ℕ → Pair → Type 0
  Without k p = (q : ℕ) → q < length premises → (q ≡ k → ⊥) → (get_or premises q none).Met p

  abbrev pub other? : Row → ℕ → Bool
  other? r q = either (eqb q r.against) ((get_or premises q none).test r.pair)

  abbrev pub one_picture? : Pair → Bool
  one_picture? p = same (pixels_of (is_signed p.format) p.x) (pixels_of (is_signed p.other) p.y)

  abbrev pub fools? : Row → Bool
  fools? r = both (below (other? r) (length premises)) (both (one_picture? r.pair) (not (same r.pair.x r.pair.y)))

  -- so nobody can claim the theorem without that premise
  pub refuted : (r : Row) → T (fools? r) → Claim (Without r.against) → ⊥
  refuted r t claim = T_not (same r.pair.x r.pair.y) differ (subst (λ (l : List ℕ). T (same r.pair.x l)) e (same_self r.pair.x))
    where
      shown : T (both (one_picture? r.pair) (not (same r.pair.x r.pair.y)))
      shown = both_right (below (other? r) (length premises)) _ t

      differ : T (not (same r.pair.x r.pair.y))
      differ = both_right (one_picture? r.pair) _ shown

      others : Without r.against r.pair
      others q h n =
          (get_or premises q none).shows r.pair
          (either_right (eqb q r.against) _ (ne_eqb q r.against n)
          (below_at (other? r) (length premises) q (both_left (below (other? r) (length premises)) _ t) h))

      e : r.pair.x ≡ r.pair.y
      e = claim r.pair others (same_eq _ _ (both_left (one_picture? r.pair) _ shown))

  -- row by row
  pub all_refuted : (rows : List Row) (first : Row) → T (every fools? rows) → (k : ℕ) → k < length rows → Claim (Without (get_or rows k first).against) → ⊥
  all_refuted rows first t k h = refuted (get_or rows k first) (every_at fools? rows k first t h)
