-- The values that are worked out of the endpoints are those of the palettes: one law a value, whatever the format. Assumes nothing.
use mathlib.Core.Path.{◌≡◌, ◌∙◌, refl, sym, ap, subst}
use mathlib.Core.Bool.{Bool, true, false}
use mathlib.Core.List.{List, [], ◌∷◌, ◌++◌}
use Prim.Native.Nat.{ℕ, zero, suc, zero-le, ◌+◌, ◌*◌, ◌/◌, ◌%◌, ◌^◌, ◌≤◌, ◌<◌}
use native.Mathlib.Nat.{mod-lt, zero-div}
use native.Mathlib.Omega.{arith}
use borrow.Author.Tests.{le-leb, lt-leb}
use lib.Dec.{eqb, lit<, lit≤}
use lib.ListN.{get_or, drop}
use Rattle.laws.specs.Pick.{pick}
use Rattle.laws.specs.Bit.{bit}
use Rattle.laws.specs.Made.{made, count_of}
use Rattle.laws.specs.Ranges.{InBits}
use Rattle.laws.proofs.Rows.{made-same}
use Rattle.bc6h_spec.specs.declared.Fields.{Fields}
use Rattle.bc6h_spec.specs.Layout.{row, two_regions, precision, own_width, transformed}
use Rattle.bcn_spec.specs.Regions.{map_of, fixup_of}
use Rattle.bc6h_spec.specs.Regions.{region_of}
use Rattle.bcn_spec.specs.Indices.{index_in}
use Rattle.bc6h_spec.specs.Fields.{mode_in, gathered, stored, index_of, fields_at, Valid}
use Rattle.bc6h_spec.specs.Half.{keep, unquantized, minus_infinity}
use Rattle.bcn_spec.specs.Weights.{weights8, weights16}
use Rattle.bc6h_spec.specs.Picture.{first_end, other_end, endpoint, weights, between, palette, value, picture_as}
use Rattle.bc6h_spec.proofs.Ranges.{unquantized_in}
use Rattle.bc6h_spec.proofs.Reading.{at_endpoint, at_index, read_valid}
use Rattle.bc6h_spec.proofs.Modes.{mode_range}
use Rattle.bc6h_spec.proofs.Widths.{known}
use Rattle.bc6h_spec.proofs.Shown.{endpoint_in, unsigned_finite}
use Rattle.bc6h_spec.proofs.Finite.{narrow_finite}
use Rattle.bcn_data.specs.declared.Subset2Map.{Subset2Map}
use Rattle.bcn_data.specs.Subsets.{subset2}
use Rattle.bcn_util.specs.declared.BitStream.{BitStream}
use Rattle.bcn_util.specs.declared.Indexes.{Indexes}
use Rattle.bcn_util.specs.Stream.{number}
use Rattle.bcn_util.specs.Indexed.{indexes_of}
use Rattle.bcn_util.proofs.Indexing.{index_read}
use Rattle.bcn_data.proofs.Fixups.{fixup_range}
use Rattle.bc6_runs.proofs.Partition.{partition_at}
use Rattle.bc6_endpoints.specs.Ends.{word_of, end_in}
use Rattle.bc6_runs.specs.Ends.{places_of}
use Rattle.bc6_paint.specs.Values.{packed_at, shade_of, painted_value, block_value, BlockPainted, PaintedAs}
use Rattle.bc6_paint.proofs.Points.{worked_out}
use Rattle.bc6_paint.proofs.Link.{painted_as}
use Rattle.bc6.specs.Shown.{partition_in, Picked, OnePicked}
use Rattle.bc6.specs.declared.Picks.{Picks}
use Rattle.bc6_endpoints.specs.declared.Ends.{Ends}
use Rattle.bc6_by_mode.specs.Words.{end_word, EndsOf, BlockEnds}
use Rattle.bc6.proofs.Codes.{two_codes, one_codes}

-- a map with no pixel of region 1
unmapped : (k : ℕ) → bit 0 k ≡ 0
unmapped k = ap (λ (n : ℕ). n % 2) (zero-div (2 ^ k))

-- ---- a record's values

module _ (s : Bool) (f : Fields) (v : Valid f) where
  abbrev p : ℕ
  p = precision f.mode

  -- channel c of endpoint e, unquantised, as 16 bits
  abbrev word : ℕ → ℕ → ℕ
  word e c = keep 16 (unquantized s p (endpoint s f e c))

  end_in_lem : (e c : ℕ) → e < 4 → c < 3 → InBits s 16 (unquantized s p (endpoint s f e c))
  end_in_lem e c he hc = unquantized_in s p (endpoint s f e c) (known f v).most (endpoint_in s f v e c he hc)

  -- the value at index i of region r
  shown : (r c i a b : ℕ) → r < 2 → c < 3 → a ≡ word (2 * r) c → b ≡ word (2 * r + 1) c → shade_of s a b (get_or (weights f.mode) i 0) ≡ palette s f r c i
  unfolding palette between
  shown r c i a b hr hc ea eb =
      (λ j. shade_of s (ea j) (eb j) (get_or (weights f.mode) i 0))
      ∙ worked_out s (unquantized s p (endpoint s f (2 * r) c)) (unquantized s p (endpoint s f (2 * r + 1) c)) (get_or (weights f.mode) i 0)
      (end_in_lem (2 * r) c (omega arith) hc) (end_in_lem (2 * r + 1) c (omega arith) hc)

  module _ (ends : ℕ → ℕ → ℕ) (indices : ℕ) where
    one_shown : two_regions f.mode ≡ false → ((c e : ℕ) → c < 3 → e < 2 → ends e c ≡ word e c)
        → ((k : ℕ) → k < 16 → packed_at 4 indices k ≡ index_of f k) → (j : ℕ) → j < 48 → block_value s 4 ends 0 indices j ≡ value s f j
    unfolding painted_value value region_of
    one_shown t et ei j h =
        let w : weights16 ≡ weights f.mode = rw t refl in
        let c = j % 3 in
        let hc : j % 3 < 3 = mod-lt j (lit< tt) in
        (λ i.
        let none = unmapped (j / 3) i in
        shade_of s (pick (eqb none 1) (ends 2 c) (ends 0 c)) (pick (eqb none 1) (ends 3 c) (ends 1 c)) (get_or (w i) (ei (j / 3) (omega arith) i) 0))
        ∙ shown 0 c (index_of f (j / 3)) _ _ (lit< tt) hc (et c 0 hc (lit< tt)) (et c 1 hc (lit< tt))
        ∙ ap (λ (r : ℕ). palette s f r c (index_of f (j / 3))) (sym (rw t refl))

    two_shown : two_regions f.mode ≡ true → ((c e : ℕ) → c < 3 → e < 4 → ends e c ≡ word e c)
        → ((k : ℕ) → k < 16 → packed_at 3 indices k ≡ index_of f k) → (map : ℕ) → map ≡ map_of f.partition → (j : ℕ) → j < 48
        → block_value s 3 ends map indices j ≡ value s f j
    unfolding painted_value value region_of
    two_shown t et ei map em j h =
        let w : weights8 ≡ weights f.mode = rw t refl in
        let c = j % 3 in
        let hc : j % 3 < 3 = mod-lt j (lit< tt) in
        let i = index_of f (j / 3) in
        (λ n.
        shade_of s (pick (eqb (bit map (j / 3)) 1) (ends 2 c) (ends 0 c)) (pick (eqb (bit map (j / 3)) 1) (ends 3 c) (ends 1 c))
        (get_or (w n) (ei (j / 3) (omega arith) n) 0))
        ∙ by_region (bit map (j / 3)) (mod-lt _ (lit< tt)) i c hc
        ∙ ap (λ (r : ℕ). palette s f r c i) (ap (λ (m : ℕ). bit m (j / 3)) em ∙ sym (rw t refl))
      where
        by_region : (r : ℕ) → r < 2 → (i c : ℕ) → c < 3
            → shade_of s (pick (eqb r 1) (ends 2 c) (ends 0 c)) (pick (eqb r 1) (ends 3 c) (ends 1 c)) (get_or (weights f.mode) i 0)
            ≡ palette s f r c i
        by_region zero h i c k = shown 0 c i _ _ h k (et c 0 k (lit< tt)) (et c 1 k (lit< tt))
        by_region (suc zero) h i c k = shown 1 c i _ _ h k (et c 2 k (lit< tt)) (et c 3 k (lit< tt))
        by_region (suc (suc r)) h i c k = absurd (omega arith)

-- ---- the record of a mode's bits

module _ (s : Bool) (format m n : ℕ) (known_format : format ≤ 1) (low : 1 ≤ m) (high : m ≤ 14) where
  abbrev f : Fields
  f = fields_at format m n

  valid : Valid f
  valid = read_valid format m n low high known_format

  stored_is : (e c : ℕ) → e < 4 → c < 3 → places_of m n c e ≡ stored f e c
  stored_is e c he hc = sym (at_endpoint format m n low high (3 * e + c) (omega arith))

  -- what is worked out of the bits is the record's
  word_is : (e c : ℕ) → e < 4 → c < 3 → end_word s m n e c ≡ word s f valid e c
  unfolding end_word word_of endpoint fields_at
  word_is e c he hc i =
      keep 16
      (unquantized s (precision m)
      (pick (eqb e 0) (first_end s (precision m) (stored_is 0 c (lit< tt) hc i))
      (other_end s (transformed m) (precision m) (own_width m c) (first_end s (precision m) (stored_is 0 c (lit< tt) hc i)) (stored_is e c he hc i))))

  pub two_picture : m ≤ 10 → {r : Ends} → EndsOf 4 s m n r → (picks : Picks) → Picked n picks
      → made (block_value s 3 (end_in r) picks.map picks.indices) 48 ≡ picture_as s f
  unfolding picture_as fields_at
  two_picture h {r} t picks k =
      let two : two_regions m ≡ true = le-leb m 10 h in
      let part : gathered (row m) n 13 ≡ partition_in n = partition_at m n low h in
      made-same _ (value s f) 48
      (two_shown s f valid (end_in r) picks.indices two (λ c e hc he. t.each c e hc he ∙ word_is e c he hc)
      (λ i hi.
      k.index i hi
      ∙ ap (λ (q : ℕ). index_in 3 (0 ∷ fixup_of q ∷ []) (n / 2 ^ 82) i) (sym part)
      ∙ ap (λ (b : Bool). index_in (pick b 3 4) (pick b (0 ∷ fixup_of (gathered (row m) n 13) ∷ []) (0 ∷ [])) (n / 2 ^ pick b 82 65) i) (sym two)
      ∙ sym (at_index format m n low high i hi))
      picks.map (k.regions ∙ ap map_of (sym part)))

  pub one_picture : 10 < m → {r : Ends} → EndsOf 2 s m n r → (word : ℕ) → OnePicked n word → made (block_value s 4 (end_in r) 0 word) 48 ≡ picture_as s f
  unfolding picture_as fields_at
  one_picture h {r} t word k =
      let one : two_regions m ≡ false = lt-leb m 10 h in
      made-same _ (value s f) 48
      (one_shown s f valid (end_in r) word one (λ c e hc he. t.each c e hc he ∙ word_is e c (omega arith) hc)
      (λ i hi.
      k.index i hi
      ∙ ap (λ (b : Bool). index_in (pick b 3 4) (pick b (0 ∷ fixup_of (gathered (row m) n 13) ∷ []) (0 ∷ [])) (n / 2 ^ pick b 82 65) i) (sym one)
      ∙ sym (at_index format m n low high i hi)))

-- ---- what is counted

-- none of a record's values is minus infinity in unsigned format, nor in either but in mode 14
none_infinite : (s : Bool) (f : Fields) → Valid f → (f.mode ≡ 14 → ⊥) → count_of minus_infinity (picture_as s f) ≡ 0
none_infinite true f v h = narrow_finite f v h
none_infinite false f v h = unsigned_finite f v

-- ---- a block's values, by its regions

module _ (s : Bool) (format n : ℕ) (known_format : format ≤ 1) (some : 1 ≤ mode_in n) {ends : Ends} (told : BlockEnds s n ends) where
  abbrev g : Fields
  g = fields_at format (mode_in n) n

  high : mode_in n ≤ 14
  high = mode_range n

  pub two_painted : (n % 4 ≡ 3 → ⊥) → (picks : Picks) → Picked n picks → {out after : List ℕ} {r : ℕ}
      → BlockPainted 3 (made (block_value s 3 (end_in ends) picks.map picks.indices) 48) out r after → PaintedAs (picture_as s g) out 0 after
  unfolding fields_at
  two_painted h picks k {out} w =
      let few : mode_in n ≤ 10 = two_codes n h in
      let same = two_picture s format (mode_in n) n known_format some high few (told.two few) picks k in
      record {
        holds = w.holds ∙ ap (λ (l : List ℕ). l ++ drop 48 out) same;
        counts = sym (none_infinite s g (read_valid format (mode_in n) n some high known_format) (λ q. absurd (omega arith)));
      }

  pub one_painted : n % 4 ≡ 3 → (word : ℕ) → OnePicked n word → {out after : List ℕ} {r : ℕ}
      → BlockPainted 4 (made (block_value s 4 (end_in ends) 0 word) 48) out r after → PaintedAs (picture_as s g) out r after
  one_painted h word k w =
      let many : 10 < mode_in n = one_codes n some h in
      painted_as (record { holds = w.holds; counts = w.counts refl })
      (one_picture s format (mode_in n) n known_format some high many (told.one many) word k)

-- ---- what the bits say of the pixels

pub two_picked : (n q rest : ℕ) (map : Subset2Map) (x : Indexes) → q ≡ partition_in n → map ≡ subset2 q → rest ≡ n / 2 ^ 82
    → x ≡ indexes_of 3 (0 ∷ map.fixup_index_2 ∷ []) rest → Picked n (record { map = map.subset_indexes; indices = x.uncompressed })
two_picked n q rest map x eq em er ex =
    let told : map ≡ subset2 (partition_in n) = em ∙ ap subset2 eq in
    let fix = fixup_range q (rw eq (mod-lt (n / 2 ^ 77) (lit< tt))) em in
    record {
      regions = ap (λ (m : Subset2Map). m.subset_indexes) told;
      index = λ k h.
          ap (λ (y : Indexes). packed_at 3 y.uncompressed k) ex
          ∙ index_read 3 (lit≤ tt) (0 ∷ map.fixup_index_2 ∷ []) (zero-le, (lit< tt, (fix.0, (omega (arith, fix.1), tt)))) rest k h
          ∙ ap (λ (y : ℕ). index_in 3 (0 ∷ map.fixup_index_2 ∷ []) y k) er
          ∙ ap (λ (m : Subset2Map). index_in 3 (0 ∷ m.fixup_index_2 ∷ []) (n / 2 ^ 82) k) told;
    }

pub one_picked : (n rest : ℕ) (x : Indexes) → rest ≡ n / 2 ^ 65 → x ≡ indexes_of 4 (0 ∷ []) rest → OnePicked n x.uncompressed
one_picked n rest x er ex =
    record {
      index = λ k h.
          ap (λ (y : Indexes). packed_at 4 y.uncompressed k) ex
          ∙ index_read 4 (lit≤ tt) (0 ∷ []) (zero-le, (lit< tt, tt)) rest k h
          ∙ ap (λ (y : ℕ). index_in 4 (0 ∷ []) y k) er;
    }

-- of one stream and of another that is the same
pub same_picks : {s t : BitStream} {picks : Picks} → s ≡ t → Picked (number s) picks → Picked (number t) picks
same_picks {picks = picks} e = subst (λ (x : BitStream). Picked (number x) picks) e

pub same_indices : {s t : BitStream} {word : ℕ} → s ≡ t → OnePicked (number s) word → OnePicked (number t) word
same_indices {word = word} e = subst (λ (x : BitStream). OnePicked (number x) word) e
