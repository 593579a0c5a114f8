-- The regions and the fix-up pixels of a partition, as the code has them: one test over all rows. Assumes nothing.
use mathlib.Core.Path.{◌≡◌, sym, subst}
use mathlib.Core.Bool.{Bool}
use mathlib.Core.List.{List, [], ◌∷◌}
use Prim.Native.Nat.{ℕ, zero-le, ◌<◌, ◌≤◌}
use native.Mathlib.Omega.{arith}
use lib.Dec.{T, eqb, ltb, eqb→eq, ltb→lt, lit<}
use Rattle.laws.specs.Pick.{both}
use Rattle.laws.specs.Every.{below, same}
use Rattle.laws.proofs.Tests.{both_left, both_right, below_at, same_eq}
use Rattle.bcn_spec.specs.Rows.{partition_set_3, fixups_of, row_region}
use Rattle.bcn_util.proofs.Indexing.{Rising}
use Rattle.bcn_data.specs.declared.Subset2Map.{Subset2Map}
use Rattle.bcn_data.specs.declared.Subset3Map.{Subset3Map}
use Rattle.bcn_data.specs.Subsets.{mask_of, fixup_at, row2, row3}
use Rattle.bc7_paint.specs.Shades.{region_at}

-- what the code takes for the maps of regions 1 and 2 and for the fix-up pixels
pub record Marked (regions p ones twos : ℕ) (xs : List ℕ) : Type 0 where
  pub region_is : (k : ℕ) → k < 16 → region_at ones twos k ≡ row_region regions p k
  pub region_fits : (k : ℕ) → k < 16 → row_region regions p k < regions
  pub fixups_are : fixups_of regions p ≡ xs

module _ (regions p ones twos : ℕ) (xs : List ℕ) where
  abbrev region? : ℕ → Bool
  region? k = eqb (region_at ones twos k) (row_region regions p k)

  abbrev fits? : ℕ → Bool
  fits? k = ltb (row_region regions p k) regions

  abbrev marked? : Bool
  marked? = both (below region? 16) (both (below fits? 16) (same (fixups_of regions p) xs))

  marked_so : T marked? → Marked regions p ones twos xs
  marked_so t0 =
      let t1 = both_right (below region? 16) _ t0 in
      record {
        region_is = λ k h. eqb→eq _ _ (below_at region? 16 k (both_left (below region? 16) _ t0) h);
        region_fits = λ k h. ltb→lt _ _ (below_at fits? 16 k (both_left (below fits? 16) _ t1) h);
        fixups_are = same_eq _ _ (both_right (below fits? 16) _ t1);
      }

-- ---- one region

one? : T (marked? 1 0 0 0 (0 ∷ []))
unfolding row_region fixups_of
one? = tt

pub one_rising : Rising 0 16 (0 ∷ [])
one_rising = (zero-le, (lit< tt, tt))

pub marked_one : Marked 1 0 0 0 (0 ∷ [])
marked_one = marked_so 1 0 0 0 (0 ∷ []) one?

-- ---- two

abbrev two? : ℕ → Bool
two? p = both (marked? 2 p (mask_of 1 2 p) 0 (0 ∷ fixup_at 1 2 p ∷ [])) (both (ltb 0 (fixup_at 1 2 p)) (ltb (fixup_at 1 2 p) 16))

all_two : T (below two? 64)
unfolding partition_set_3 row_region fixups_of
all_two = tt

pub record Two (p : ℕ) (s : Subset2Map) : Type 0 where
  pub marked : Marked 2 p s.subset_indexes 0 (0 ∷ s.fixup_index_2 ∷ [])
  pub low_positive : 1 ≤ s.fixup_index_2
  pub low_fits : s.fixup_index_2 ≤ 15

pub two : (p : ℕ) (s : Subset2Map) → p < 64 → s ≡ row2 p → Two p s
unfolding row2
two p s h e =
    let t0 = below_at two? 64 p all_two h in
    let t1 = both_right (marked? 2 p (mask_of 1 2 p) 0 (0 ∷ fixup_at 1 2 p ∷ [])) _ t0 in
    subst (Two p) (sym e)
    (record {
      marked = marked_so 2 p (mask_of 1 2 p) 0 (0 ∷ fixup_at 1 2 p ∷ []) (both_left (marked? 2 p (mask_of 1 2 p) 0 (0 ∷ fixup_at 1 2 p ∷ [])) _ t0);
      low_positive = ltb→lt _ _ (both_left (ltb 0 (fixup_at 1 2 p)) _ t1);
      low_fits = (let l : fixup_at 1 2 p < 16 = ltb→lt _ _ (both_right (ltb 0 (fixup_at 1 2 p)) _ t1) in omega arith);
    })

pub two_rising : {p : ℕ} {s : Subset2Map} → Two p s → Rising 0 16 (0 ∷ s.fixup_index_2 ∷ [])
two_rising t = (zero-le, (lit< tt, (t.low_positive, (omega (arith, t.low_fits), tt))))

-- ---- three

abbrev list3 : ℕ → List ℕ
list3 p = 0 ∷ fixup_at 1 3 p ∷ fixup_at 2 3 p ∷ []

abbrev rise3? : ℕ → Bool
rise3? p = both (ltb 0 (fixup_at 1 3 p)) (both (ltb (fixup_at 1 3 p) (fixup_at 2 3 p)) (ltb (fixup_at 2 3 p) 16))

abbrev three? : ℕ → Bool
three? p = both (marked? 3 p (mask_of 1 3 p) (mask_of 2 3 p) (list3 p)) (rise3? p)

all_three : T (below three? 64)
unfolding partition_set_3 row_region fixups_of
all_three = tt

pub record Three (p : ℕ) (s : Subset3Map) : Type 0 where
  pub marked : Marked 3 p s.ones s.twos (0 ∷ s.fixup_index_2 ∷ s.fixup_index_3 ∷ [])
  pub low_positive : 1 ≤ s.fixup_index_2
  pub low_high : s.fixup_index_2 < s.fixup_index_3
  pub high_fits : s.fixup_index_3 ≤ 15

pub three : (p : ℕ) (s : Subset3Map) → p < 64 → s ≡ row3 p → Three p s
unfolding row3
three p s h e =
    let t0 = below_at three? 64 p all_three h in
    let t1 = both_right (marked? 3 p (mask_of 1 3 p) (mask_of 2 3 p) (list3 p)) _ t0 in
    let t2 = both_right (ltb 0 (fixup_at 1 3 p)) _ t1 in
    subst (Three p) (sym e)
    (record {
      marked = marked_so 3 p (mask_of 1 3 p) (mask_of 2 3 p) (list3 p) (both_left (marked? 3 p (mask_of 1 3 p) (mask_of 2 3 p) (list3 p)) _ t0);
      low_positive = ltb→lt _ _ (both_left (ltb 0 (fixup_at 1 3 p)) _ t1);
      low_high = ltb→lt _ _ (both_left (ltb (fixup_at 1 3 p) (fixup_at 2 3 p)) _ t2);
      high_fits = (let l : fixup_at 2 3 p < 16 = ltb→lt _ _ (both_right (ltb (fixup_at 1 3 p) (fixup_at 2 3 p)) _ t2) in omega arith);
    })

pub three_rising : {p : ℕ} {s : Subset3Map} → Three p s → Rising 0 16 (0 ∷ s.fixup_index_2 ∷ s.fixup_index_3 ∷ [])
three_rising t =
    (zero-le, (lit< tt, (t.low_positive, (omega (arith, t.low_high, t.high_fits), (t.low_high, (omega (arith, t.high_fits), tt))))))
