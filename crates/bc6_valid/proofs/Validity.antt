-- The test `valid` holds of the records that `Valid` admits, and of no other. Assumes nothing.
use mathlib.Core.Path.{◌≡◌, sym, subst}
use mathlib.Core.Bool.{false}
use Prim.Native.Nat.{ℕ, ◌+◌, ◌*◌, ◌/◌, ◌%◌, ◌^◌, ◌≤◌, ◌<◌}
use native.Mathlib.Nat.{lt_of_lt_of_le}
use native.Mathlib.Omega.{arith}
use lib.Dec.{T, eqb, leb, ltb, eqb→eq, leb→le, ltb→lt, le→leb, lt→ltb, lit<}
use lib.ListN.{length, get_or}
use lib.Pow.{pow_mono}
use borrow.Author.Tests.{eq-eqb}
use Rattle.laws.specs.Every.{below}
use Rattle.laws.proofs.Tests.{picks, below_at, both_left, both_right}
use Rattle.laws.proofs.Search.{holds, both_hold}
use Rattle.bc6h_spec.specs.declared.Fields.{Fields}
use Rattle.bc6h_spec.specs.Layout.{width, two_regions}
use Rattle.bc6h_spec.specs.Regions.{region1_of}
use Rattle.bcn_spec.specs.Indices.{stored_bits}
use Rattle.bc6h_spec.specs.Fields.{index_bits, fixups, stored, index_of, Valid}
use Rattle.bc6h_spec.proofs.Modes.{partition_width}
use Rattle.bc6h_spec.proofs.Undo.{index_small}
use Rattle.bc6h_spec.proofs.Reading.{width_last, width_partition, stored_le}
use Rattle.bc6_valid.specs.Validity.{endpoint_fits, index_fits, valid}
use Rattle.laws.proofs.Below.{below_all}

module _ (f : Fields) where
  abbrev m : ℕ
  m = f.mode

  -- ---- sound

  module _ (t : T (below (endpoint_fits f) 12)) where
    end_fits : (e c : ℕ) → e < 4 → c < 3 → stored f e c < 2 ^ width m (3 * e + c)
    unfolding endpoint_fits
    end_fits e c he hc = ltb→lt _ _ (below_at (endpoint_fits f) 12 (3 * e + c) t (omega arith))

    end_zero : two_regions m ≡ false → (e c : ℕ) → 2 ≤ e → e < 4 → c < 3 → stored f e c ≡ 0
    end_zero o e c l he hc =
        let y : stored f e c < 2 ^ 0 = rw (width_last m e c l he hc, o) at (end_fits e c he hc) in
        omega arith

  module _ (t : T (ltb f.partition (2 ^ width m 13))) where
    part_zero : two_regions m ≡ false → f.partition ≡ 0
    part_zero o =
        let y : f.partition < 2 ^ 0 = rw (width_partition m, o) at (ltb→lt f.partition (2 ^ width m 13) t) in
        omega arith

  module _ (t : T (below (index_fits f) 16)) where
    size_fits : (k : ℕ) → k < 16 → index_of f k < 2 ^ stored_bits (index_bits m) (fixups m f.partition) k
    unfolding index_fits
    size_fits k h = ltb→lt _ _ (below_at (index_fits f) 16 k t h)

  -- S-37: a record that passes the test is valid.
  pub sound : T (valid f) → Valid f
  unfolding valid
  sound t =
      let t1 = both_right (leb f.format 1) _ t in
      let t2 = both_right (leb 1 m) _ t1 in
      let t3 = both_right (leb m 14) _ t2 in
      let t4 = both_right (eqb (length f.endpoints) 12) _ t3 in
      let ends = both_left (below (endpoint_fits f) 12) _ t4 in
      let t5 = both_right (below (endpoint_fits f) 12) _ t4 in
      let part = both_left (ltb f.partition (2 ^ width m 13)) _ t5 in
      let t6 = both_right (ltb f.partition (2 ^ width m 13)) _ t5 in
      let t7 = both_right (eqb f.region1 (region1_of m f.partition)) _ t6 in
      let all = both_right (eqb (length f.indices) 16) _ t7 in
      record {
        format_known = leb→le _ _ (both_left (leb f.format 1) _ t);
        mode_first = leb→le _ _ (both_left (leb 1 m) _ t1);
        mode_last = leb→le _ _ (both_left (leb m 14) _ t2);
        four_endpoints = eqb→eq _ _ (both_left (eqb (length f.endpoints) 12) _ t3);
        endpoint_fits = end_fits ends;
        endpoint_zero = end_zero ends;
        partition_fits = partition_width m f.partition (ltb→lt _ _ part);
        partition_zero = part_zero part;
        counted = eqb→eq _ _ (both_left (eqb f.region1 (region1_of m f.partition)) _ t6);
        sixteen_indices = eqb→eq _ _ (both_left (eqb (length f.indices) 16) _ t7);
        index_fits = λ k h. lt_of_lt_of_le (size_fits all k h) (pow_mono (stored_le (index_bits m) (fixups m f.partition) k));
        fixup_fits = λ k h e. rw e at (size_fits all k h);
      }

  -- ---- complete

  module _ (v : Valid f) where
    pub each_end : (p : ℕ) → p < 12 → T (endpoint_fits f p)
    unfolding endpoint_fits
    each_end p h =
        let q : 3 * (p / 3) + p % 3 ≡ p = omega arith in
        lt→ltb _ _ (subst (λ (x : ℕ). get_or f.endpoints x 0 < 2 ^ width m x) q (v.endpoint_fits (p / 3) (p % 3) (omega arith) (omega arith)))

    pub part_fits : T (ltb f.partition (2 ^ width m 13))
    part_fits =
        lt→ltb _ _
        (subst (λ (x : ℕ). f.partition < 2 ^ x) (sym (width_partition m))
        (picks (two_regions m) 5 0 (λ (x : ℕ). f.partition < 2 ^ x) (λ _. v.partition_fits) (λ o. rw (v.partition_zero o) (lit< tt))))

    pub each_index : (k : ℕ) → k < 16 → T (index_fits f k)
    unfolding index_fits
    each_index k h = lt→ltb _ _ (index_small f v k)

    -- S-37: a valid record passes the test.
    pub complete : T (valid f)
    unfolding valid
    complete =
        both_hold (leb f.format 1) _ (le→leb _ _ v.format_known)
        (both_hold (leb 1 m) _ (le→leb _ _ v.mode_first)
        (both_hold (leb m 14) _ (le→leb _ _ v.mode_last)
        (both_hold (eqb (length f.endpoints) 12) _ (holds (eq-eqb _ _ v.four_endpoints))
        (both_hold (below (endpoint_fits f) 12) _ (below_all (endpoint_fits f) 12 each_end)
        (both_hold (ltb f.partition (2 ^ width m 13)) _ part_fits
        (both_hold (eqb f.region1 (region1_of m f.partition)) _ (holds (eq-eqb _ _ v.counted))
        (both_hold (eqb (length f.indices) 16) _ (holds (eq-eqb _ _ v.sixteen_indices))
        (below_all (index_fits f) 16 each_index))))))))
