-- What a cause means, of a record of a store that is not refused whole. Assumes nothing.
use mathlib.Core.Path.{◌≡◌, sym, ◌∙◌}
use mathlib.Core.Bool.{Bool, true}
use mathlib.Core.List.{List}
use Prim.Native.Nat.{ℕ, ◌<◌}
use lib.Dec.{eqb, ltb}
use lib.ListN.{length}
use borrow.Author.Tests.{lt-ltb, le-ltb, eq-eqb}
use Rattle.laws.specs.Pick.{either}
use Rattle.laws.proofs.Tests.{cases}
use Rattle.laws.proofs.Sameness.{true_false}
use Rattle.bcn_spec.specs.Answers.{done, bad_format, spare_byte, reserved_block, bad_place}
use Rattle.store_records.specs.Store.{records_in, format_of, spare_zero, record_refusal}
use Rattle.probe_places.specs.Places.{places_in, format_in, rest_zero, place_in, placed, unplaced, place_refusal, place_record_refusal}
use Rattle.probe_places.specs.Readings.{placed_refusal}
use Rattle.store_faulty.specs.Faulty.{plain_form, placed_form, form_of, count_in, store_refusal, is_damaged, cause_of}
use Rattle.store_faulty.proofs.Forms.{by_form, fits, even}

-- a number that the record call has for a record that is there
abbrev pub of_record : ℕ → Bool
of_record number = either (eqb number done) (either (eqb number bad_format) (either (eqb number spare_byte) (eqb number bad_place)))

plain_number : (store : List ℕ) (n : ℕ) → store_refusal plain_form (length store) ≡ done → n < records_in store → of_record (record_refusal store n) ≡ true
unfolding record_refusal
plain_number store n z l =
    rw (le-ltb _ _ (fits plain_form (length store) z), eq-eqb _ _ (even plain_form (length store) z), lt-ltb _ _ l)
    (cases (ltb 1 (format_of store n)) (λ t. rw t) (λ f. cases (spare_zero store n) (λ t. rw (f, t)) (λ u. rw (f, u))))

placed_number : (store : List ℕ) (n : ℕ) → store_refusal placed_form (length store) ≡ done → n < places_in store → of_record (placed_refusal store n) ≡ true
unfolding placed_refusal place_record_refusal place_refusal
placed_number store n z l =
    rw (le-ltb _ _ (fits placed_form (length store) z), eq-eqb _ _ (even placed_form (length store) z), lt-ltb _ _ l)
    (cases (ltb 1 (format_in store n)) (λ t. rw t)
    (λ f. cases (rest_zero store n)
    (λ t. cases (either (placed (place_in store n)) (unplaced (place_in store n))) (λ p. rw (f, t, p)) (λ q. rw (f, t, q)))
    (λ u. rw (f, u))))

module _ (byte : ℕ) (store : List ℕ) (n : ℕ) (z : store_refusal (form_of byte) (length store) ≡ done) (h : n < count_in (form_of byte) store) where
  number_known : of_record ((form_of byte).refusal store n) ≡ true
  number_known =
      by_form byte (λ f. store_refusal f (length store) ≡ done → n < count_in f store → of_record (f.refusal store n) ≡ true)
      (placed_number store n) (plain_number store n) z h

  -- a cause is 0, 1, 7, 12 or 17
  pub cause_known : either (of_record (cause_of (form_of byte) store n)) (eqb (cause_of (form_of byte) store n) reserved_block) ≡ true
  unfolding cause_of
  cause_known = cases (is_damaged (form_of byte) store n) (λ t. rw t) (λ f. rw (f, number_known))

  -- and 12 is told of damaged records alone
  pub twelve_damaged : cause_of (form_of byte) store n ≡ reserved_block → is_damaged (form_of byte) store n ≡ true
  unfolding cause_of
  twelve_damaged e =
      cases (is_damaged (form_of byte) store n) (λ t. t)
      (λ f. let r : (form_of byte).refusal store n ≡ reserved_block = rw f at e in absurd (true_false (sym number_known ∙ rw r)))
