-- The audit's lines and counts, as a loop over the records makes them, and the whole text. Assumes nothing.
use mathlib.Core.Path.{◌≡◌, refl, sym, ap, ◌∙◌}
use mathlib.Core.Bool.{true, false}
use mathlib.Core.List.{List, ◌++◌}
use Prim.Native.Nat.{ℕ, zero, suc, ◌+◌, ◌≤◌, ◌<◌}
use native.Mathlib.Omega.{arith}
use lib.ListN.{length}
use Rattle.bcn_spec.specs.Answers.{done}
use Rattle.bcn_spec.specs.Bits.{block_size}
use Rattle.bc6h_spec.specs.Fields.{mode_of}
use Rattle.store_records.specs.Store.{most_records}
use Rattle.probe_places.specs.declared.Place.{Place}
use Rattle.probe_places.specs.declared.PlacedRecord.{PlacedRecord}
use Rattle.probe_places.specs.declared.PlacedReading.{PlacedReading}
use Rattle.probe_places.specs.declared.PlacedReading.TheVariants as reading
use Rattle.probe_places.specs.Places.{places_in, format_in, place_in, block_in}
use Rattle.probe_places.specs.Readings.{placed_refusal, Readable, PlacedRead, placed_part}
use Rattle.probe_places.proofs.Readings.{known, record_is, part_of, block_length}
use Rattle.store_faulty.specs.declared.FaultCounts.{FaultCounts}
use Rattle.store_faulty.specs.Faulty.{placed_form, form_of, store_refusal, how_many, counts_of}
use Rattle.store_faulty.proofs.Forms.{fits, more}
use Rattle.text.specs.Text.{refusal_line, Written}
use Rattle.text.proofs.Texts.{then, said}
use Rattle.text.proofs.Lines as lines
use Rattle.text_places.specs.Lines.{record_words, place_words}
use Rattle.text_places_audit.specs.Copies.{first_in, is_copy}
use Rattle.text_places_audit.specs.Audit.{columns_line, where_of, copy_line, line_of, copy_lines, tally_line, tally_of, audit_of}
use Rattle.text_places_audit.proofs.Copies.{copy_when, no_copy_when}

-- ---- a record that is not refused

module _ (store : List ℕ) (n : ℕ) {part : List ℕ} (u : Readable store n) (p : part ≡ placed_part (placed_refusal store n) store n) where
  pub part_is : part ≡ block_in store n
  part_is = p ∙ sym (part_of store n refl u)

  pub part_length : length part ≡ block_size
  part_length = ap length part_is ∙ block_length (known store n u)

pub format_is : {store : List ℕ} {n : ℕ} {x : PlacedReading} {r : PlacedRecord} → PlacedRead store n x → x ≡ reading.Record r → r.format ≡ format_in store n
format_is d e = ap (λ (r : PlacedRecord). r.format) (record_is d e)

pub mode-is : (store : List ℕ) (n : ℕ) {mode : ℕ} → mode ≡ mode_of ((form_of 32).block store n) → mode ≡ mode_of (block_in store n)
unfolding form_of
mode-is store n e = e

-- ---- a line

pub where_is : (store : List ℕ) (n : ℕ) {l m₁ m₂ : List ℕ} {at e₁ e₂ : ℕ} {place : Place} → place ≡ place_in store n → Written l at (record_words store n) e₁ m₁
    → Written m₁ e₁ (place_words place) e₂ m₂ → Written l at (where_of store n) e₂ m₂
unfolding where_of
where_is store n p x y = said (then x y) (rw p)

-- ---- the loop over the records

-- How many of the first n records are copies, as a loop has it.
pub record Tallied (store : List ℕ) (n copies : ℕ) : Type 0 where
  pub copies_is : copies ≡ how_many (is_copy placed_form store) n
  pub few : copies ≤ n

module _ (store : List ℕ) (n first : ℕ) (e : first ≡ first_in placed_form store n) where
  module _ (here : first ≡ n) where
    no_copy : is_copy placed_form store n ≡ false
    no_copy = no_copy_when placed_form store n (omega arith)

    pub line_skipped : {l m : List ℕ} {at e : ℕ} → Written l at (copy_lines store n) e m → Written l at (copy_lines store (n + 1)) e m
    unfolding line_of
    line_skipped = lines.line_skipped (line_of store) n (rw no_copy)

    pub tally_skipped : {copies : ℕ} → Tallied store n copies → Tallied store (n + 1) copies
    tally_skipped t =
        let m : how_many (is_copy placed_form store) (n + 1) ≡ how_many (is_copy placed_form store) n + 0 = more (is_copy placed_form store) n ∙ rw no_copy in
        record { copies_is = let f = t.copies_is in omega arith; few = let f = t.few in omega arith }

  module _ (before : first < n) where
    a_copy : is_copy placed_form store n ≡ true
    a_copy = copy_when placed_form store n (omega arith)

    pub line_more : {l m₁ m₂ : List ℕ} {at e₁ e₂ : ℕ} → Written l at (copy_lines store n) e₁ m₁ → Written m₁ e₁ (copy_line store n first) e₂ m₂
        → Written l at (copy_lines store (n + 1)) e₂ m₂
    unfolding line_of
    line_more x y = lines.line_more (line_of store) n x (said y (rw (a_copy, sym e)))

    pub tally_more : {copies : ℕ} → Tallied store n copies → Tallied store (n + 1) (copies + 1)
    tally_more t =
        let m : how_many (is_copy placed_form store) (n + 1) ≡ how_many (is_copy placed_form store) n + 1 = more (is_copy placed_form store) n ∙ rw a_copy in
        record { copies_is = let f = t.copies_is in omega arith; few = let f = t.few in omega arith }

module _ (store : List ℕ) where
  pub no_tally : Tallied store 0 0
  unfolding how_many
  no_tally = record { copies_is = refl; few = omega arith }

  -- the loop is done
  pub tallied : {l m₁ m₂ : List ℕ} {at e₁ e₂ copies : ℕ} {faults : FaultCounts} (n count : ℕ) → n ≤ count → count ≤ n → Tallied store n copies
      → faults ≡ counts_of (form_of 32) store → Written l at (copy_lines store n) e₁ m₁ → Written m₁ e₁ (tally_line faults copies) e₂ m₂
      → Written l at (copy_lines store count ++ tally_of store count) e₂ m₂
  unfolding tally_of form_of
  tallied n count h k t f x y =
      let is : n ≡ count = omega arith in
      said (then x y) (rw (is, f, rw is at t.copies_is))

-- ---- the text

module _ (store : List ℕ) where
  pub few : {r : ℕ} → r ≡ store_refusal (form_of 32) (length store) → r ≡ done → places_in store ≤ most_records
  unfolding form_of
  few e z = omega (arith, fits placed_form (length store) (sym e ∙ z))

  pub refused_text : (answer : ℕ) → answer ≡ store_refusal (form_of 32) (length store) → (answer ≡ done → ⊥) → refusal_line answer ≡ audit_of store
  unfolding audit_of form_of
  refused_text zero e r = absurd (r refl)
  refused_text (suc a) e r = rw (sym e)

  pub done_text : {l m₁ m₂ : List ℕ} {e₁ e₂ r : ℕ} → r ≡ store_refusal (form_of 32) (length store) → r ≡ done → Written l 0 columns_line e₁ m₁
      → Written m₁ e₁ (copy_lines store (places_in store) ++ tally_of store (places_in store)) e₂ m₂ → Written l 0 (audit_of store) e₂ m₂
  unfolding audit_of form_of
  done_text e z x y = let none : store_refusal placed_form (length store) ≡ done = sym e ∙ z in said (then x y) (rw none)
