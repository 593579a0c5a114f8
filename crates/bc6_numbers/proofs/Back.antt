-- A valid record comes back from its numbers. Assumes nothing.
use mathlib.Core.Path.{◌≡◌, ◌∙◌, refl, sym, ap}
use Prim.Native.Nat.{ℕ, ◌+◌, ◌-◌, ◌^◌, ◌≤◌, ◌<◌}
use native.Mathlib.Nat.{lt_of_lt_of_le}
use native.Mathlib.Omega.{arith}
use lib.Dec.{lit<, lit≤}
use lib.ListN.{length, get_or}
use lib.Pow.{pow_mono}
use lib.Seq.{ext_get_or}
use borrow.Author.Tests.{eq-eqb}
use Rattle.laws.specs.Made.{made}
use Rattle.laws.proofs.Tests.{picks}
use Rattle.laws.proofs.Rows.{get_d_made, length_made, count_le}
use Rattle.bc6h_spec.specs.declared.Fields.{Fields}
use Rattle.bc6h_spec.specs.Layout.{two_regions}
use Rattle.bc6h_spec.specs.Regions.{region_of, region1_of}
use Rattle.bc6h_spec.specs.Fields.{index_of, Valid}
use Rattle.bc6_numbers.specs.Numbers.{number_count, number_at, numbers_of, byte_from, endpoint_from, index_from, fields_from}
use Rattle.bc6_numbers.proofs.Record.{at_endpoint, at_index, small_number}

module _ (f : Fields) where
  at : (k : ℕ) → k < number_count → get_or (numbers_of f) k 0 ≡ number_at f k
  unfolding numbers_of
  at k h = get_d_made (number_at f) number_count k 0 h

  byte : (k number : ℕ) → k < number_count → number_at f k ≡ number → number < 255 → byte_from (get_or (numbers_of f) k 0) ≡ number
  byte k number h e l = ap byte_from (at k h ∙ e) ∙ sym (small_number number l)

  module _ (v : Valid f) where
    endpoints_are : made (endpoint_from (numbers_of f)) 12 ≡ f.endpoints
    unfolding endpoint_from
    endpoints_are =
        ext_get_or 0 _ _ (length_made (endpoint_from (numbers_of f)) 12 ∙ sym v.four_endpoints)
        (λ k h.
        let i : k < 12 = omega (arith, length_made (endpoint_from (numbers_of f)) 12) in
        let same : k + 2 - 2 ≡ k = omega arith in
        get_d_made (endpoint_from (numbers_of f)) 12 k 0 i
        ∙ at (k + 2) (omega arith)
        ∙ sym (at_endpoint f (k + 2) (omega arith) (omega arith) (omega arith))
        ∙ ap (λ (x : ℕ). get_or f.endpoints x 0) same)

    index-lt : (k : ℕ) → k < 16 → index_of f k < 255
    index-lt k h =
        let small : index_of f k < 2 ^ 4 = lt_of_lt_of_le (v.index_fits k h) (pow_mono (picks (two_regions f.mode) 3 4 (λ (n : ℕ). n ≤ 4) (λ _. lit≤ tt) (λ _. lit≤ tt))) in
        omega arith

    indices_are : made (index_from (numbers_of f)) 16 ≡ f.indices
    unfolding index_from
    indices_are =
        ext_get_or 0 _ _ (length_made (index_from (numbers_of f)) 16 ∙ sym v.sixteen_indices)
        (λ k h.
        let i : k < 16 = omega (arith, length_made (index_from (numbers_of f)) 16) in
        let same : k + 16 - 16 ≡ k = omega arith in
        get_d_made (index_from (numbers_of f)) 16 k 0 i
        ∙ byte (k + 16) (index_of f k) (omega arith)
        (sym (at_index f (k + 16) (omega arith) (omega arith) (omega arith) (omega arith) (omega arith)) ∙ ap (λ (x : ℕ). get_or f.indices x 0) same)
        (index-lt k i))

    count_lt : f.region1 < 255
    unfolding region1_of
    count_lt = omega (arith, v.counted, count_le 1 (made (region_of f.mode f.partition) 16), length_made (region_of f.mode f.partition) 16)

    numbers_length : length (numbers_of f) ≡ number_count
    unfolding numbers_of
    numbers_length = length_made (number_at f) number_count

    pub fields_back : fields_from (numbers_of f) ≡ f
    unfolding fields_from number_at
    fields_back = rw (eq-eqb (length (numbers_of f)) number_count numbers_length) (λ i.
        record {
          format = byte 0 f.format (lit< tt) refl (omega (arith, v.format_known)) i;
          mode = byte 1 f.mode (lit< tt) refl (omega (arith, v.mode_last)) i;
          endpoints = endpoints_are i;
          partition = byte 14 f.partition (lit< tt) refl (omega (arith, v.partition_fits)) i;
          region1 = byte 15 f.region1 (lit< tt) refl count_lt i;
          indices = indices_are i;
        })
