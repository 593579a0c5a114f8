-- The weights run from 0 to 64 and are even: those of the two ends add up to 64, so turned ends give the turned palette. One test
-- over each list. Assumes nothing.
use mathlib.Core.Path.{◌≡◌, refl}
use mathlib.Core.Bool.{Bool}
use mathlib.Core.List.{List}
use Prim.Native.Nat.{ℕ, suc, ◌-◌, ◌≤◌}
use native.Mathlib.Omega.{arith}
use lib.Dec.{T, leb, eqb, leb→le, eqb→eq}
use lib.ListN.{get_or}
use Rattle.laws.specs.Pick.{both}
use Rattle.laws.specs.Every.{below}
use Rattle.laws.proofs.Tests.{both_left, both_right, below_at}
use Rattle.bcn_spec.specs.Weights.{weights8, weights16}

-- a list of weights whose last index is n
pub record Weights (n : ℕ) (ws : List ℕ) : Type 0 where
  pub starts : get_or ws 0 0 ≡ 0
  pub ends : get_or ws n 0 ≡ 64
  pub small : (i : ℕ) → i ≤ n → get_or ws i 0 ≤ 64
  pub even : (i : ℕ) → i ≤ n → get_or ws (n - i) 0 ≡ 64 - get_or ws i 0

abbrev even? : ℕ → List ℕ → ℕ → Bool
even? n ws i = both (leb (get_or ws i 0) 64) (eqb (get_or ws (n - i) 0) (64 - get_or ws i 0))

by_test : (n : ℕ) (ws : List ℕ) → get_or ws 0 0 ≡ 0 → get_or ws n 0 ≡ 64 → T (below (even? n ws) (suc n)) → Weights n ws
by_test n ws z l t =
    record {
      starts = z;
      ends = l;
      small = λ i h. leb→le (get_or ws i 0) 64 (both_left (leb (get_or ws i 0) 64) _ (below_at (even? n ws) (suc n) i t (omega arith)));
      even = λ i h.
          eqb→eq (get_or ws (n - i) 0) (64 - get_or ws i 0) (both_right (leb (get_or ws i 0) 64) _ (below_at (even? n ws) (suc n) i t (omega arith)));
    }

pub weights8_even : Weights 7 weights8
weights8_even = by_test 7 weights8 refl refl tt

pub weights16_even : Weights 15 weights16
weights16_even = by_test 15 weights16 refl refl tt
