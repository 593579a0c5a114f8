-- The rows of one, two and three regions: their rule, one test over all of them. Assumes nothing.
use mathlib.Core.Path.{◌≡◌}
use mathlib.Core.Bool.{Bool}
use mathlib.Core.List.{List, [], ◌∷◌}
use Prim.Native.Nat.{ℕ, zero, suc, ◌-◌, ◌<◌, ◌≤◌}
use native.Mathlib.Nat.{not-suc-le-zero}
use lib.Dec.{T, eqb, ltb, eqb→eq, ltb→lt}
use lib.ListN.{length, get_or}
use Rattle.laws.specs.Pick.{pick, both}
use Rattle.laws.specs.Every.{below}
use Rattle.laws.proofs.Tests.{both_left, both_right, below_at}
use Rattle.bcn_spec.specs.Regions.{regions_in}
use Rattle.bcn_spec.specs.Rows.{partition_set_3, row_of, row_region, fixups_of}

-- the first pixel of a list that lies in region r
abbrev pub fixup_among : (ℕ → ℕ) → ℕ → List ℕ → ℕ
fixup_among region r [] = 16
fixup_among region r (x ∷ xs) = pick (eqb (region x) r) x (fixup_among region r xs)

-- the fix-up pixel of region r
abbrev pub row_fixup : ℕ → ℕ → ℕ → ℕ
row_fixup regions p r = fixup_among (row_region regions p) r (fixups_of regions p)

pub record RowRule (regions p : ℕ) : Type 0 where
  pub pixels : length (regions_in (row_of regions p)) ≡ 16
  pub region_fits : (k : ℕ) → k < 16 → row_region regions p k < regions
  -- S-68: each region has one fix-up pixel, which lies in it; region 0's is pixel 0.
  pub first : row_fixup regions p 0 ≡ 0
  pub one_each : length (fixups_of regions p) ≡ regions
  pub fixup_fits : (r : ℕ) → r < regions → row_fixup regions p r < 16
  pub fixup_in : (r : ℕ) → r < regions → row_region regions p (row_fixup regions p r) ≡ r
  -- in order of pixels
  pub rising : (i : ℕ) → i < regions - 1 → get_or (fixups_of regions p) i 0 < get_or (fixups_of regions p) (suc i) 0
  pub listed_fits : (i : ℕ) → i < regions → get_or (fixups_of regions p) i 0 < 16

module _ (regions p : ℕ) where
  abbrev pixels? : Bool
  pixels? = eqb (length (regions_in (row_of regions p))) 16

  abbrev region? : ℕ → Bool
  region? k = ltb (row_region regions p k) regions

  abbrev fits? : ℕ → Bool
  fits? r = ltb (row_fixup regions p r) 16

  abbrev in? : ℕ → Bool
  in? r = eqb (row_region regions p (row_fixup regions p r)) r

  abbrev rising? : ℕ → Bool
  rising? i = ltb (get_or (fixups_of regions p) i 0) (get_or (fixups_of regions p) (suc i) 0)

  abbrev listed? : ℕ → Bool
  listed? i = ltb (get_or (fixups_of regions p) i 0) 16

  abbrev rule? : Bool
  rule? =
      both pixels?
      (both (below region? 16)
      (both (eqb (row_fixup regions p 0) 0)
      (both (eqb (length (fixups_of regions p)) regions)
      (both (below fits? regions)
      (both (below in? regions)
      (both (below rising? (regions - 1)) (below listed? regions)))))))

  ruled : T rule? → RowRule regions p
  ruled t0 =
      let t1 = both_right pixels? _ t0 in
      let t2 = both_right (below region? 16) _ t1 in
      let t3 = both_right (eqb (row_fixup regions p 0) 0) _ t2 in
      let t4 = both_right (eqb (length (fixups_of regions p)) regions) _ t3 in
      let t5 = both_right (below fits? regions) _ t4 in
      let t6 = both_right (below in? regions) _ t5 in
      record {
        pixels = eqb→eq _ _ (both_left pixels? _ t0);
        region_fits = λ k h. ltb→lt _ _ (below_at region? 16 k (both_left (below region? 16) _ t1) h);
        first = eqb→eq _ _ (both_left (eqb (row_fixup regions p 0) 0) _ t2);
        one_each = eqb→eq _ _ (both_left (eqb (length (fixups_of regions p)) regions) _ t3);
        fixup_fits = λ r h. ltb→lt _ _ (below_at fits? regions r (both_left (below fits? regions) _ t4) h);
        fixup_in = λ r h. eqb→eq _ _ (below_at in? regions r (both_left (below in? regions) _ t5) h);
        rising = λ i h. ltb→lt _ _ (below_at rising? (regions - 1) i (both_left (below rising? (regions - 1)) _ t6) h);
        listed_fits = λ i h. ltb→lt _ _ (below_at listed? regions i (both_right (below rising? (regions - 1)) _ t6) h);
      }

-- how many rows a number of regions has: one, or 64
abbrev pub row_count : ℕ → ℕ
row_count regions = pick (eqb regions 1) 1 64

abbrev all? : ℕ → Bool
all? i = below (rule? (suc i)) (row_count (suc i))

all : T (below all? 3)
unfolding partition_set_3 row_region fixups_of
all = tt

pub rule : (regions p : ℕ) → 1 ≤ regions → regions ≤ 3 → p < row_count regions → RowRule regions p
rule zero p low high h = absurd (not-suc-le-zero low)
rule (suc i) p low high h = ruled (suc i) p (below_at (rule? (suc i)) (row_count (suc i)) p (below_at all? 3 i all high) h)
