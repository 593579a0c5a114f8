-- A block whose indices run through its palettes shows them, entry by entry. Assumes nothing.
use mathlib.Core.Path.{◌≡◌, sym, ap, ap₂, ◌∙◌, subst}
use mathlib.Core.Bool.{Bool, true, false}
use mathlib.Core.List.{List, [], ◌∷◌, ◌++◌}
use Prim.Native.Nat.{ℕ, suc, ◌+◌, ◌-◌, ◌*◌, ◌/◌, ◌%◌, ◌^◌, ◌≤◌, ◌<◌}
use native.Mathlib.Omega.{arith}
use lib.Dec.{T, eqb, ltb, eqb→eq, lit<, lit≤}
use lib.ListN.{length, get_or, take, drop, take-append-drop, get_or-eq_default}
use lib.Seq.{drop-cons, length-take-le, get_or-take}
use borrow.Author.Tests.{lt-leb, le-leb, ltb-true, ltb-false}
use Rattle.laws.specs.Pick.{pick, both}
use Rattle.laws.specs.Bit.{bit}
use Rattle.laws.specs.Every.{below}
use Rattle.laws.specs.Packed.{before, unpacked}
use Rattle.laws.proofs.Tests.{cases, both_left, both_right, below_at}
use Rattle.laws.proofs.Rows.{made-same}
use Rattle.bc6h_spec.specs.declared.Fields.{Fields}
use Rattle.bcn_spec.specs.Bits.{IsBlock, number_of}
use Rattle.bc6h_spec.specs.Layout.{row, two_regions}
use Rattle.bcn_spec.specs.Regions.{partitions, map_of}
use Rattle.bc6h_spec.specs.Regions.{region_of}
use Rattle.bcn_spec.specs.Indices.{index_in}
use Rattle.bc6h_spec.specs.Fields.{mode_in, mode_of, gathered, fields_at, fields_of, index_of}
use Rattle.bc6h_spec.specs.Picture.{palette}
use Rattle.bc6h_spec.specs.Block.{format_number, pixels_of}
use Rattle.bcn_spec.proofs.Bytes.{number_lt}
use Rattle.bc6h_spec.proofs.Gather.{low_only}
use Rattle.bcn_spec.proofs.Joined.{number_joined}
use Rattle.bc6h_spec.proofs.Modes.{low_mode}
use Rattle.bc6h_spec.proofs.Once.{row_once}
use Rattle.bc6h_spec.proofs.Pixel.{shows_as, pixel_shows, same_palette}
use Rattle.bc6h_spec.proofs.Reading.{at_index, fields_are, fields_mode, mode_le}
use Rattle.bc6h_spec.proofs.Split.{endpoint_low, partition_next}
use Rattle.store_trust.specs.Ramp.{ramped_one, ramped_two}

-- the indices as one number: 0 to 15 in one region; 0 to 7 and 7 to 0 in two
indices16 : ℕ
indices16 = 0xFEDCBA98765432 * 128 + 8

indices8 : ℕ
indices8 = 0x29CBBFD6344

-- pixel k's region and index in the block with two regions
abbrev pub region_at : ℕ → ℕ
region_at k = k / 8

abbrev pub index_at : ℕ → ℕ
index_at k = pick (ltb k 8) k (15 - k)

abbrev in-order? : ℕ → Bool
in-order? k = eqb (index_in 4 (0 ∷ []) indices16 k) k

in_order : T (below in-order? 16)
unfolding indices16 before unpacked
in_order = tt

abbrev there-and-back? : ℕ → Bool
there-and-back? k = both (eqb (index_in 3 (0 ∷ 15 ∷ []) indices8 k) (index_at k)) (eqb (bit (map_of 13) k) (region_at k))

there_and_back : T (below there-and-back? 16)
unfolding indices8 before unpacked partitions
there_and_back = tt

-- ---- the first bytes of a block, then other bytes

module _ (block : List ℕ) (b : IsBlock block) (n : ℕ) (h : n ≤ 15) where
  length_front : length (take n block) ≡ n
  length_front = length-take-le n block (omega (arith, b.sixteen))

  front : ℕ
  front = number_of (take n block)

  front_lt : front < 256 ^ n
  unfolding front
  front_lt = subst (λ (k : ℕ). front < 256 ^ k) length_front (number_lt (take n block) bytes)
    where
      bytes : (i : ℕ) → get_or (take n block) i 0 < 256
      bytes i =
          cases (ltb i n) (λ t. rw (get_or-take n block i 0 (ltb-true i n t)) (b.byte i))
          (λ f. rw (get_or-eq_default (take n block) 0 {n = i} (omega (arith, length_front, ltb-false i n f))) (lit< tt))

  number_front : (rest : List ℕ) → number_of (take n block ++ rest) ≡ front + 256 ^ n * number_of rest
  unfolding front
  number_front rest = number_joined (take n block) rest ∙ ap (λ (k : ℕ). number_of (take n block) + 256 ^ k * number_of rest) length_front

  number_is : number_of block ≡ front + 256 ^ n * (get_or block n 0 + 256 * number_of (drop (suc n) block))
  number_is =
      ap number_of (sym (take-append-drop n block)) ∙ number_front (drop n block)
      ∙ ap (λ (l : List ℕ). front + 256 ^ n * number_of l) (drop-cons block n 0 (omega (arith, b.sixteen)))

-- ---- blocks with the same mode and endpoints

-- what another block shares with this one
pub record Recast (block other : List ℕ) : Type 0 where
  pub same_mode : mode_of other ≡ mode_of block
  pub same_endpoints : (format : ℕ) → (fields_of format other).endpoints ≡ (fields_of format block).endpoints

module _ (block other : List ℕ) (low : 1 ≤ mode_of block) (c : Recast block other) where
  other_low : 1 ≤ mode_of other
  other_low = subst (λ (m : ℕ). 1 ≤ m) (sym c.same_mode) low

  -- it shows, at a pixel, its region's palette at its index
  recast_shows : (signed : Bool) (k j r i : ℕ) → k < 16 → j < 3
      → region_of (fields_of (format_number signed) other).mode (fields_of (format_number signed) other).partition k ≡ r
      → index_of (fields_of (format_number signed) other) k ≡ i
      → get_or (pixels_of signed other) (3 * k + j) 0 ≡ palette signed (fields_of (format_number signed) block) r j i
  recast_shows signed k j r i hk hj er ei =
      let n = format_number signed in
      ap (λ (l : List ℕ). get_or l (3 * k + j) 0) (shows_as signed other other_low)
      ∙ pixel_shows signed (fields_of n other) k j hk hj
      ∙ ap₂ (λ (x y : ℕ). palette signed (fields_of n other) x j y) er ei
      ∙ same_palette signed (fields_of n other) (fields_of n block) (fields_mode n other ∙ c.same_mode ∙ sym (fields_mode n block)) (c.same_endpoints n) r j i

-- the fields of another block of the same mode
fields_of_other : (format : ℕ) (block other : List ℕ) → 1 ≤ mode_of block → mode_of other ≡ mode_of block
    → fields_of format other ≡ fields_at format (mode_of block) (number_of other)
fields_of_other format block other low e =
    fields_are format other (subst (λ (m : ℕ). 1 ≤ m) (sym e) low) ∙ ap (λ (m : ℕ). fields_at format m (number_of other)) e

recast : (block other : List ℕ) → 1 ≤ mode_of block → number_of other % 32 ≡ number_of block % 32
    → ((p : ℕ) → p < 12 → gathered (row (mode_of block)) (number_of other) p ≡ gathered (row (mode_of block)) (number_of block) p) → Recast block other
unfolding mode_of fields_at
recast block other low e g =
    record {
      same_mode = mode_same;
      same_endpoints = λ format.
          ap (λ (f : Fields). f.endpoints) (fields_of_other format block other low mode_same)
          ∙ made-same _ _ 12 g
          ∙ sym (ap (λ (f : Fields). f.endpoints) (fields_are format block low));
    }
  where
    mode_same : mode_of other ≡ mode_of block
    mode_same = sym (low_mode (number_of other)) ∙ ap mode_in e ∙ low_mode (number_of block)

-- ---- one region

module _ (block : List ℕ) (b : IsBlock block) (from : 11 ≤ mode_of block) where
  one : two_regions (mode_of block) ≡ false
  one = lt-leb (mode_of block) 10 from

  row_size : length (row (mode_of block)) ≡ 65
  row_size = (row_once (mode_of block) (omega arith) (mode_le block)).size ∙ ap (λ (t : Bool). pick t 82 65) one

  one_number : number_of (ramped_one block) ≡ front block b 8 (lit≤ tt) + 18446744073709551616 * (get_or block 8 0 % 2 + 2 * indices16)
  unfolding ramped_one indices16
  one_number =
      let tail : get_or block 8 0 % 2 + 0x10 + 256 * 0xFEDCBA98765432 ≡ get_or block 8 0 % 2 + 2 * (0xFEDCBA98765432 * 128 + 8) = omega arith in
      number_front block b 8 (lit≤ tt) _ ∙ ap (λ (n : ℕ). front block b 8 (lit≤ tt) + 18446744073709551616 * n) tail

  -- the first 65 bits are the block's, and the rest is the indices
  one_low : number_of (ramped_one block) % 2 ^ 65 ≡ number_of block % 2 ^ 65
  one_low = rw (one_number, number_is block b 8 (lit≤ tt)) (omega (arith, front_lt block b 8 (lit≤ tt)))

  one_high : number_of (ramped_one block) / 2 ^ 65 ≡ indices16
  one_high = rw one_number (omega (arith, front_lt block b 8 (lit≤ tt)))

  one_recast : Recast block (ramped_one block)
  one_recast =
      recast block (ramped_one block) (omega arith) (omega (arith, one_low)) (λ p h.
      sym (low_only (row (mode_of block)) (number_of (ramped_one block)) p)
      ∙ ap (λ (n : ℕ). gathered (row (mode_of block)) n p)
      (subst (λ (n : ℕ). number_of (ramped_one block) % 2 ^ n ≡ number_of block % 2 ^ n) (sym row_size) one_low)
      ∙ low_only (row (mode_of block)) (number_of block) p)

  one_index : (format k : ℕ) → k < 16 → index_of (fields_of format (ramped_one block)) k ≡ k
  one_index format k h =
      ap (λ (f : Fields). index_of f k) (fields_of_other format block (ramped_one block) (omega arith) one_recast.same_mode)
      ∙ at_index format (mode_of block) (number_of (ramped_one block)) (omega arith) (mode_le block) k h
      ∙ rw one (ap (λ (n : ℕ). index_in 4 (0 ∷ []) n k) one_high ∙ eqb→eq _ _ (below_at in-order? 16 k in_order h))

  one_region : (format k : ℕ) → region_of (fields_of format (ramped_one block)).mode (fields_of format (ramped_one block)).partition k ≡ 0
  unfolding region_of
  one_region format k =
      ap (λ (t : Bool). pick t (bit (map_of (fields_of format (ramped_one block)).partition) k) 0)
      (ap two_regions (fields_mode format (ramped_one block) ∙ one_recast.same_mode) ∙ one)

  pub one_shown : (signed : Bool) (i c : ℕ) → i < 16 → c < 3
      → get_or (pixels_of signed (ramped_one block)) (3 * i + c) 0 ≡ palette signed (fields_of (format_number signed) block) 0 c i
  one_shown signed i c hi hc =
      recast_shows block (ramped_one block) (omega arith) one_recast signed i c 0 i hi hc (one_region (format_number signed) i) (one_index (format_number signed) i hi)

-- ---- two regions

module _ (block : List ℕ) (b : IsBlock block) (from : 1 ≤ mode_of block) (to : mode_of block ≤ 10) where
  two : two_regions (mode_of block) ≡ true
  two = le-leb (mode_of block) 10 to

  two_number : number_of (ramped_two block) ≡ front block b 9 (lit≤ tt) + 4722366482869645213696 * (get_or block 9 0 % 32 + 32 * (13 + 32 * indices8))
  unfolding ramped_two indices8
  two_number =
      let tail : get_or block 9 0 % 32 + 0xA0 + 256 * 0x0A72EFF58D11 ≡ get_or block 9 0 % 32 + 32 * (13 + 32 * 0x29CBBFD6344) = omega arith in
      number_front block b 9 (lit≤ tt) _ ∙ ap (λ (n : ℕ). front block b 9 (lit≤ tt) + 4722366482869645213696 * n) tail

  -- the first 77 bits are the block's; then the partition, and the indices
  two_low : number_of (ramped_two block) % 2 ^ 77 ≡ number_of block % 2 ^ 77
  two_low = rw (two_number, number_is block b 9 (lit≤ tt)) (omega (arith, front_lt block b 9 (lit≤ tt)))

  two_next : number_of (ramped_two block) / 2 ^ 77 ≡ 13 + 32 * indices8
  two_next = rw two_number (omega (arith, front_lt block b 9 (lit≤ tt)))

  two_high : number_of (ramped_two block) / 2 ^ 82 ≡ indices8
  two_high = omega (arith, two_next)

  two_recast : Recast block (ramped_two block)
  two_recast =
      recast block (ramped_two block) from (omega (arith, two_low)) (λ p h.
      endpoint_low (mode_of block) from to (number_of (ramped_two block)) (number_of block) p h two_low)

  fields_two : (format : ℕ) → fields_of format (ramped_two block) ≡ fields_at format (mode_of block) (number_of (ramped_two block))
  fields_two format = fields_of_other format block (ramped_two block) from two_recast.same_mode

  thirteen : gathered (row (mode_of block)) (number_of (ramped_two block)) 13 ≡ 13
  thirteen = partition_next (mode_of block) from to (number_of (ramped_two block)) 13 indices8 two_next (lit< tt)

  two_index : (format k : ℕ) → k < 16 → index_of (fields_of format (ramped_two block)) k ≡ index_at k
  unfolding partitions
  two_index format k h =
      ap (λ (f : Fields). index_of f k) (fields_two format)
      ∙ at_index format (mode_of block) (number_of (ramped_two block)) from (mode_le block) k h
      ∙ rw (two, thirteen)
      (ap (λ (n : ℕ). index_in 3 (0 ∷ 15 ∷ []) n k) two_high
      ∙ eqb→eq _ _ (both_left (eqb (index_in 3 (0 ∷ 15 ∷ []) indices8 k) (index_at k)) _ (below_at there-and-back? 16 k there_and_back h)))

  two_region : (format k : ℕ) → k < 16 → region_of (fields_of format (ramped_two block)).mode (fields_of format (ramped_two block)).partition k ≡ region_at k
  unfolding region_of fields_at
  two_region format k h =
      ap (λ (f : Fields). pick (two_regions f.mode) (bit (map_of f.partition) k) 0) (fields_two format)
      ∙ rw (two, thirteen)
      (eqb→eq _ _ (both_right (eqb (index_in 3 (0 ∷ 15 ∷ []) indices8 k) (index_at k)) _ (below_at there-and-back? 16 k there_and_back h)))

  pub two_shown : (signed : Bool) (k c : ℕ) → k < 16 → c < 3
      → get_or (pixels_of signed (ramped_two block)) (3 * k + c) 0 ≡ palette signed (fields_of (format_number signed) block) (region_at k) c (index_at k)
  two_shown signed k c hk hc =
      recast_shows block (ramped_two block) from two_recast signed k c (region_at k) (index_at k) hk hc (two_region (format_number signed) k hk) (two_index (format_number signed) k hk)
