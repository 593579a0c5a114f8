-- The rows as numbers: one test over all of them. Assumes nothing.
use mathlib.Core.Path.{◌≡◌, ◌∙◌, ap}
use mathlib.Core.Bool.{Bool}
use Prim.Native.Nat.{ℕ, ◌+◌, ◌*◌, ◌/◌, ◌%◌, ◌<◌}
use native.Mathlib.Nat.{mod-eq_of_lt, add-mul-mod_self_left}
use native.Mathlib.Omega.{arith}
use lib.Dec.{T, eqb, ltb, eqb→eq, ltb→lt}
use Rattle.laws.specs.Pick.{both}
use Rattle.laws.specs.Every.{below}
use Rattle.laws.proofs.Tests.{both_left, both_right, below_at}
use Rattle.bcn_spec.specs.Regions.{partitions, map_of, fixup_of}
use Rattle.bcn_spec.specs.Rows.{partition_set_3, fixups_of}
use Rattle.bcn_data.specs.Subsets.{subset2, mask_of, fixup_at, row2, row3, packed_row_2, three_row}

-- ---- every map has sixteen bits, and every fix-up pixel four

record Fits (regions p : ℕ) : Type 0 where
  ones : mask_of 1 regions p < 65536
  twos : mask_of 2 regions p < 65536
  low : fixup_at 1 regions p < 16
  high : fixup_at 2 regions p < 16

abbrev fits? : ℕ → ℕ → Bool
fits? regions p =
    both (ltb (mask_of 1 regions p) 65536)
    (both (ltb (mask_of 2 regions p) 65536) (both (ltb (fixup_at 1 regions p) 16) (ltb (fixup_at 2 regions p) 16)))

all_fit : T (below (λ i. below (fits? (i + 2)) 64) 2)
unfolding partition_set_3 fixups_of
all_fit = tt

fits : (i p : ℕ) → i < 2 → p < 64 → Fits (i + 2) p
fits i p hi h =
    let t0 = below_at (fits? (i + 2)) 64 p (below_at (λ i. below (fits? (i + 2)) 64) 2 i all_fit hi) h in
    let t1 = both_right (ltb (mask_of 1 (i + 2) p) 65536) _ t0 in
    let t2 = both_right (ltb (mask_of 2 (i + 2) p) 65536) _ t1 in
    record {
      ones = ltb→lt _ _ (both_left (ltb (mask_of 1 (i + 2) p) 65536) _ t0);
      twos = ltb→lt _ _ (both_left (ltb (mask_of 2 (i + 2) p) 65536) _ t1);
      low = ltb→lt _ _ (both_left (ltb (fixup_at 1 (i + 2) p) 16) _ t2);
      high = ltb→lt _ _ (both_right (ltb (fixup_at 1 (i + 2) p) 16) _ t2);
    }

-- ---- a row's number, taken apart

low_part : (size n a b : ℕ) → n ≡ a + size * b → a < size → n % size ≡ a
low_part size n a b e h = ap (λ (x : ℕ). x % size) e ∙ add-mul-mod_self_left a size b ∙ mod-eq_of_lt h

module _ (p row : ℕ) (h : p < 64) (e : row ≡ packed_row_2 p) where
  pub small2 : row < 0x1000000
  small2 = let f = fits 0 p (omega arith) h in omega (arith, e, f.ones, f.low)

  pub apart2 : record { subset_indexes = row % 65536; fixup_index_2 = row / 65536 } ≡ row2 p
  unfolding row2
  apart2 =
      let f = fits 0 p (omega arith) h in
      let map : row % 65536 ≡ mask_of 1 2 p = low_part 65536 _ _ _ e f.ones in
      let low : row / 65536 ≡ fixup_at 1 2 p = omega (arith, e, f.ones) in
      λ i. record { subset_indexes = map i; fixup_index_2 = low i }

module _ (p row : ℕ) (h : p < 64) (e : row ≡ three_row p) where
  pub small3 : row / 68719476736 < 256
  unfolding three_row
  small3 = let f = fits 1 p (omega arith) h in omega (arith, e, f.ones, f.twos, f.low, f.high)

  pub apart3 : record { ones = row % 65536; twos = row / 65536 % 65536; fixup_index_2 = row / 4294967296 % 16; fixup_index_3 = row / 68719476736 } ≡ row3 p
  unfolding three_row row3
  apart3 =
      let f = fits 1 p (omega arith) h in
      let one : row % 65536 ≡ mask_of 1 3 p = low_part 65536 _ _ _ e f.ones in
      let rest : row / 65536 ≡ mask_of 2 3 p + 65536 * (fixup_at 1 3 p + 16 * fixup_at 2 3 p) = omega (arith, e, f.ones) in
      let two : row / 65536 % 65536 ≡ mask_of 2 3 p = low_part 65536 _ _ _ rest f.twos in
      let last : row / 4294967296 ≡ fixup_at 1 3 p + 16 * fixup_at 2 3 p = omega (arith, e, f.ones, f.twos) in
      let low : row / 4294967296 % 16 ≡ fixup_at 1 3 p = low_part 16 _ _ _ last f.low in
      let high : row / 68719476736 ≡ fixup_at 2 3 p = omega (arith, e, f.ones, f.twos, f.low) in
      λ i. record { ones = one i; twos = two i; fixup_index_2 = low i; fixup_index_3 = high i }

-- ---- S-12: rows 0 to 31 are BC6H's

abbrev first? : ℕ → Bool
first? p = both (eqb (mask_of 1 2 p) (map_of p)) (eqb (fixup_at 1 2 p) (fixup_of p))

all_first : T (below first? 32)
unfolding partitions fixups_of
all_first = tt

-- S-12: rows 0 to 31 are BC6H's.
pub first_rows : (p : ℕ) → p < 32 → row2 p ≡ subset2 p
unfolding row2
first_rows p h =
    let t = below_at first? 32 p all_first h in
    let map : mask_of 1 2 p ≡ map_of p = eqb→eq _ _ (both_left (eqb (mask_of 1 2 p) (map_of p)) _ t) in
    let low : fixup_at 1 2 p ≡ fixup_of p = eqb→eq _ _ (both_right (eqb (mask_of 1 2 p) (map_of p)) _ t) in
    λ i. record { subset_indexes = map i; fixup_index_2 = low i }
