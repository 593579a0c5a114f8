-- A record in another store: whatever its 24 bytes decide is the same there. And so no record of a cleaned store goes.
-- Assumes nothing.
use mathlib.Core.Path.{◌≡◌, sym, ◌∙◌, ap}
use mathlib.Core.Bool.{false, not}
use mathlib.Core.List.{List, [], ◌∷◌}
use Prim.Native.Nat.{ℕ, ◌*◌, ◌%◌, ◌≤◌, ◌<◌}
use native.Mathlib.Omega.{arith}
use lib.Dec.{ltb}
use lib.ListN.{length, get_or, take, drop, length-drop}
use lib.Seq.{take_all, take-add, take-take, drop_at, drop-drop, length-take-le}
use borrow.Author.Tests.{lt-ltb, le-ltb, eq-eqb, ltb-true, ltb-false}
use Rattle.laws.specs.Checks.{first_met}
use Rattle.laws.proofs.Tests.{cases}
use Rattle.laws.proofs.Sameness.{true_false, not_so}
use Rattle.bcn_spec.specs.Answers.{bad_format, spare_byte}
use Rattle.bcn_spec.specs.Bits.{block_size}
use Rattle.bc6h_spec.specs.Fields.{mode_of}
use Rattle.store_records.specs.Store.{record_size, head_size, store_limit, records_in, byte_of, format_of, spare_zero, block_of, record_refusal}
use Rattle.store_clean.specs.Clean.{Repeats, first_of, goes, record_of, cleaned_of, stay_count}
use Rattle.store_clean.proofs.Repeating.{goes_first, first_repeated, goes_by}
use Rattle.store_clean.proofs.Leaving.{record_byte, staying_mono, staying_adds, staying_all, Place, place_of, left_length, left_at, left_all}

-- ---- a store that no check of its size refuses

pub record Sized (store : List ℕ) : Type 0 where
  pub fits : length store ≤ store_limit
  pub even : length store % record_size ≡ 0

sized_refusal : (store : List ℕ) (n : ℕ) → Sized store → n < records_in store
    → record_refusal store n ≡ first_met ((ltb 1 (format_of store n), bad_format) ∷ (not (spare_zero store n), spare_byte) ∷ [])
unfolding record_refusal
sized_refusal store n s h = rw (le-ltb _ _ s.fits, eq-eqb _ _ s.even, lt-ltb _ _ h)

block_in : (store : List ℕ) (n : ℕ) → n < records_in store → block_of store n ≡ take block_size (drop head_size (record_of store n))
unfolding block_of record_of
block_in store n h =
    let rest = drop (n * record_size) store in
    let room : head_size ≤ length rest = simp length-drop (omega arith) in
    let cut : drop head_size (take record_size rest) ≡ take block_size (drop head_size rest) =
    ap (drop head_size) (take-add head_size block_size rest)
    ∙ drop_at (take head_size rest) (take block_size (drop head_size rest)) head_size (length-take-le head_size rest room) in
    sym (ap (take block_size) cut ∙ take-take block_size block_size (drop head_size rest) (omega arith)
    ∙ ap (take block_size) (drop-drop head_size (n * record_size) store))

-- ---- record k of the one is record n of the other

pub record Moved (other store : List ℕ) (k n : ℕ) : Type 0 where
  pub here : k < records_in other
  pub there : n < records_in store
  pub same_record : record_of other k ≡ record_of store n

module _ {other store : List ℕ} {k n : ℕ} (m : Moved other store k n) where
  pub byte_moved : (j : ℕ) → j < record_size → byte_of other k j ≡ byte_of store n j
  byte_moved j h = sym (record_byte other k j h) ∙ ap (λ (l : List ℕ). get_or l j 0) m.same_record ∙ record_byte store n j h

  pub format_moved : format_of other k ≡ format_of store n
  format_moved = byte_moved 4 (omega arith)

  pub block_moved : block_of other k ≡ block_of store n
  block_moved =
      block_in other k m.here ∙ ap (λ (l : List ℕ). take block_size (drop head_size l)) m.same_record ∙ sym (block_in store n m.there)

module _ {other store : List ℕ} (small : Sized other) (sized : Sized store) where
  pub refusal_moved : {k n : ℕ} → Moved other store k n → record_refusal other k ≡ record_refusal store n
  refusal_moved {k} {n} m =
      sized_refusal other k small m.here
      ∙ rw (format_moved m, byte_moved m 5 (omega arith), byte_moved m 6 (omega arith), byte_moved m 7 (omega arith))
      (sym (sized_refusal store n sized m.there))

  pub repeats_moved : {k j n e : ℕ} → Moved other store k n → Moved other store j e → Repeats other k j → Repeats store n e
  repeats_moved m l p =
      record {
        unrefused = sym (refusal_moved m) ∙ p.unrefused;
        earlier_unrefused = sym (refusal_moved l) ∙ p.earlier_unrefused;
        same_format = sym (format_moved m) ∙ p.same_format ∙ format_moved l;
        unreserved = λ z. p.unreserved (ap mode_of (block_moved m) ∙ z);
        earlier_unreserved = λ z. p.earlier_unreserved (ap mode_of (block_moved l) ∙ z);
        same_bytes = sym (block_moved m) ∙ p.same_bytes ∙ block_moved l;
      }

-- ---- a cleaned store

module _ (store : List ℕ) (sized : Sized store) where
  pub cleaned_size : length (cleaned_of store) ≡ stay_count store * record_size
  cleaned_size = left_length (goes store) store (records_in store) (omega arith)

  few : stay_count store ≤ records_in store
  few = omega (arith, staying_adds (goes store) (records_in store))

  pub cleaned_records : records_in (cleaned_of store) ≡ stay_count store
  cleaned_records = omega (arith, cleaned_size)

  pub cleaned_sized : Sized (cleaned_of store)
  cleaned_sized = record { fits = omega (arith, cleaned_size, few, sized.fits); even = omega (arith, cleaned_size) }

  at : (k : ℕ) → k < records_in (cleaned_of store) → Place (goes store) (records_in store) k
  at k h = place_of (goes store) (records_in store) k (omega (arith, cleaned_records))

  moved : (k : ℕ) (h : k < records_in (cleaned_of store)) → Moved (cleaned_of store) store k (at k h).number
  moved k h =
      let p = at k h in
      record {
        here = h;
        there = p.below;
        same_record =
            ap (record_of (cleaned_of store)) (sym p.place)
            ∙ left_at (goes store) store (records_in store) p.number p.below (omega arith) p.stays;
      }

  in_order : (j k : ℕ) (hj : j < records_in (cleaned_of store)) (hk : k < records_in (cleaned_of store)) → j < k → (at j hj).number < (at k hk).number
  in_order j k hj hk l =
      let p = at j hj in
      let q = at k hk in
      cases (ltb p.number q.number) (λ t. ltb-true _ _ t)
      (λ f. absurd (omega (arith, l, p.place, q.place, staying_mono (goes store) q.number p.number (ltb-false _ _ f))))

  -- none of its records goes
  pub none_goes : (k : ℕ) → k < records_in (cleaned_of store) → goes (cleaned_of store) k ≡ false
  none_goes k h =
      not_so _
      (λ t. let l = goes_first (cleaned_of store) k t in
      let j = first_of (cleaned_of store) k in
      let hj : j < records_in (cleaned_of store) = omega arith in
      let p = repeats_moved cleaned_sized sized (moved k h) (moved j hj) (first_repeated (cleaned_of store) k l) in
      true_false (sym (goes_by store (at k h).number (at j hj).number (in_order j k hj h l) p) ∙ (at k h).stays))

  -- cleaned again it is itself
  pub cleaned_again : cleaned_of (cleaned_of store) ≡ cleaned_of store
  cleaned_again =
      left_all (goes (cleaned_of store)) (cleaned_of store) (records_in (cleaned_of store)) (omega arith) none_goes
      ∙ take_all (records_in (cleaned_of store) * record_size) (cleaned_of store) (omega (arith, cleaned_size))

  pub all_stay : stay_count (cleaned_of store) ≡ stay_count store
  all_stay = staying_all (goes (cleaned_of store)) (records_in (cleaned_of store)) none_goes ∙ cleaned_records
