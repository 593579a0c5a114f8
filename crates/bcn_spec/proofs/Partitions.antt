-- The partition rows of two regions: their rule, one test over all 32. Assumes nothing.
use mathlib.Core.Path.{◌≡◌, ◌∙◌, refl, sym, ap, ap₂}
use mathlib.Core.Bool.{Bool}
use mathlib.Core.List.{List, [], map}
use Prim.Native.Nat.{ℕ, zero, suc, ◌+◌, ◌/◌, ◌%◌, ◌^◌, ◌<◌, ◌≤◌}
use native.Mathlib.Nat.{mod-lt, div-one}
use native.Mathlib.Numerals.{add-one}
use native.Mathlib.Omega.{arith}
use lib.Arith.{lt-one}
use lib.Count.{ones, ones_step}
use lib.Dec.{T, eqb, ltb, eqb→eq, ltb→lt, lit<}
use lib.ListN.{length, get_or}
use lib.Pow.{shr_lt}
use Rattle.laws.specs.Pick.{pick, both}
use Rattle.laws.specs.Every.{below}
use Rattle.laws.specs.Made.{made, count_of}
use Rattle.laws.specs.Bit.{bit}
use Rattle.laws.proofs.Tests.{both_left, both_right, below_at}
use Rattle.laws.proofs.Rows.{made_front, made-cong}
use Rattle.laws.proofs.Digits.{next_bit}
use Rattle.bcn_spec.specs.Regions.{partitions, regions_in, map_of, fixup_of}

-- ---- the rule of a row

-- the characters of a row without the dash, which are the regions
abbrev regions_at : ℕ → List ℕ
regions_at p = get_or (map regions_in partitions) p []

pub record Rule (p : ℕ) : Type 0 where
  pub pixels : length (regions_at p) ≡ 16
  -- character k is the region of pixel k, 0 or 1
  pub region : (k : ℕ) → k < 16 → bit (map_of p) k ≡ get_or (regions_at p) k 0
  pub digits : (k : ℕ) → k < 16 → get_or (regions_at p) k 0 < 2
  pub map_fits : map_of p < 2 ^ 16
  -- pixel 0 lies in region 0, and the fix-up pixel in region 1
  pub first : bit (map_of p) 0 ≡ 0
  pub fixup_fits : fixup_of p < 16
  pub fixup_in : bit (map_of p) (fixup_of p) ≡ 1

abbrev region? : ℕ → ℕ → Bool
region? p k = eqb (bit (map_of p) k) (get_or (regions_at p) k 0)

abbrev digit? : ℕ → ℕ → Bool
digit? p k = ltb (get_or (regions_at p) k 0) 2

abbrev rule? : ℕ → Bool
rule? p =
    both (eqb (length (regions_at p)) 16)
    (both (below (region? p) 16)
    (both (below (digit? p) 16)
    (both (ltb (map_of p) 65536)
    (both (eqb (bit (map_of p) 0) 0)
    (both (ltb (fixup_of p) 16)
    (eqb (bit (map_of p) (fixup_of p)) 1))))))

all : T (below rule? 32)
unfolding partitions
all = tt

pub rule : (p : ℕ) → p < 32 → Rule p
rule p h =
    let t0 = below_at rule? 32 p all h in
    let t1 = both_right (eqb (length (regions_at p)) 16) _ t0 in
    let t2 = both_right (below (region? p) 16) _ t1 in
    let t3 = both_right (below (digit? p) 16) _ t2 in
    let t4 = both_right (ltb (map_of p) 65536) _ t3 in
    let t5 = both_right (eqb (bit (map_of p) 0) 0) _ t4 in
    record {
      pixels = eqb→eq _ _ (both_left (eqb (length (regions_at p)) 16) _ t0);
      region = λ k l. eqb→eq _ _ (below_at (region? p) 16 k (both_left (below (region? p) 16) _ t1) l);
      digits = λ k l. ltb→lt _ _ (below_at (digit? p) 16 k (both_left (below (digit? p) 16) _ t2) l);
      map_fits = ltb→lt _ _ (both_left (ltb (map_of p) 65536) _ t3);
      first = eqb→eq _ _ (both_left (eqb (bit (map_of p) 0) 0) _ t4);
      fixup_fits = ltb→lt _ _ (both_left (ltb (fixup_of p) 16) _ t5);
      fixup_in = eqb→eq _ _ (both_right (ltb (fixup_of p) 16) _ t5);
    }

-- ---- the pixels in region 1 are the map's ones

lone : (b : ℕ) → b < 2 → pick (eqb b 1) 1 0 ≡ b
lone zero h = refl
lone (suc zero) h = refl
lone (suc (suc b)) h = omega arith

pub ones_counted : (d m : ℕ) → m < 2 ^ d → ones m ≡ count_of 1 (made (bit m) d)
unfolding ones made count_of
ones_counted zero m h = ap ones (lt-one h)
ones_counted (suc d) m h =
    ones_step m
    ∙ ap₂ (λ (x y : ℕ). x + y) (sym (lone (m % 2) (mod-lt m (lit< tt)))) (ones_counted d (m / 2) (shr_lt d 1 (rw add-one h)))
    ∙ sym
    (ap (count_of 1) (made_front (bit m) d)
    ∙ ap₂ (λ (x : ℕ) (l : List ℕ). pick (eqb x 1) 1 0 + count_of 1 l) (ap (λ (x : ℕ). x % 2) (div-one m)) (made-cong _ _ (next_bit m) d))

-- the fix-up pixel of region 1 is not pixel 0, which lies in region 0
pub fixup_positive : (p : ℕ) → p < 32 → 1 ≤ fixup_of p
fixup_positive p h = go (fixup_of p) (rule p h).fixup_in
  where
    go : (k : ℕ) → bit (map_of p) k ≡ 1 → 1 ≤ k
    go zero e = omega (arith, e, (rule p h).first)
    go (suc k) e = omega arith
