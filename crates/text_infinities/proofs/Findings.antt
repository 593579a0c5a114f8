-- The lines and counts of records with minus infinity, as a loop over the records makes them. Assumes nothing.
use mathlib.Core.Path.{◌≡◌, refl, sym, ap, ap₂, ◌∙◌}
use mathlib.Core.List.{List, ◌++◌}
use Prim.Native.Nat.{ℕ, zero, suc, ◌+◌, ◌/◌, ◌%◌, ◌≤◌}
use native.Mathlib.Numerals.{add-one}
use native.Mathlib.Omega.{arith}
use lib.ListN.{length}
use borrow.Author.Tests.{eq-eqb, ne_eqb}
use Rattle.laws.specs.First.{first_below}
use Rattle.bcn_spec.specs.Answers.{done}
use Rattle.bc6h_spec.specs.Picture.{value_count, is_signed}
use Rattle.bc6h_spec.specs.Block.{infinities_of}
use Rattle.bc6.specs.Call.{Pixels}
use Rattle.bc6.specs.Call.{Painted}
use Rattle.bc6.proofs.Calls.{written, done_when, infinities_told, never_refused}
use Rattle.store_records.specs.Store.{records_in, format_of, tile_at, block_of, record_refusal, Unrefused, part_at, most_records}
use Rattle.store_records.proofs.Refusals.{known, block_length}
use Rattle.store_records.proofs.Readings.{part_of}
use Rattle.store_spec.specs.Shown.{picture_at}
use Rattle.store_spec.specs.Twins.{list_refusal}
use Rattle.store_spec.proofs.Shown.{record_painted, whole_picture}
use Rattle.text.specs.Text.{field, refusal_line, Written}
use Rattle.text.proofs.Texts.{then, said}
use Rattle.text.proofs.Lines as lines
use Rattle.bcn_spec.specs.declared.Refusal.{Refusal}
use Rattle.bcn_spec.specs.Refusals.{refusal_number}
use Rattle.text_infinities.specs.declared.Finding.{Finding}
use Rattle.text_infinities.specs.Infinities.{infinite_at, finding_at, finding_of, channel_word, finding_line, infinite_line, infinite_lines, records_with, values_with, counts_line, counts_of, infinities_text, Counted}

-- ---- what is found of a record

module _ (store : List ℕ) (n : ℕ) where
  nothing_at : (a : ℕ) → (a ≡ done → ⊥) → record { infinite = 0; first = value_count } ≡ finding_at a store n
  nothing_at zero r = absurd (r refl)
  nothing_at (suc a) r = refl

  pub nothing : (Unrefused store n → ⊥) → record { infinite = 0; first = value_count } ≡ finding_of store n
  unfolding finding_of
  nothing r = nothing_at (record_refusal store n) r

  pub never : {format : ℕ} {block out after : List ℕ} {r : Pixels} → Unrefused store n → format ≡ format_of store n
      → block ≡ part_at (record_refusal store n) store n → length out ≡ value_count → Painted block format out r after
      → (why : Refusal) → r.answer ≡ refusal_number why → ⊥
  never {format} {block} {out} u f b room p why e =
      let k = known store n u in
      let is : block ≡ block_of store n = b ∙ part_of store n u in
      never_refused p (done_when format (length block) (length out) (omega arith) (ap length is ∙ block_length k) (omega arith)) why e

  pub found : {format infinite first : ℕ} {block out after : List ℕ} {r : Pixels} → Unrefused store n → format ≡ format_of store n
      → block ≡ part_at (record_refusal store n) store n → length out ≡ value_count → length after ≡ value_count → Painted block format out r after
      → infinite ≡ r.infinite → first ≡ first_below (infinite_at after) value_count → record { infinite = infinite; first = first } ≡ finding_of store n
  unfolding finding_of
  found {format} {infinite} {first} {block} {out} {after} {r} u f b room len p i e =
      let k = known store n u in
      let is : block ≡ block_of store n = b ∙ part_of store n u in
      let d = done_when format (length block) (length out) (omega arith) (ap length is ∙ block_length k) (omega arith) in
      let shows : after ≡ picture_at store n = whole_picture store n _ (record_painted store n _ u f b (λ _ _. written p d)) len in
      let many : infinite ≡ infinities_of (is_signed (format_of store n)) (block_of store n) = i ∙ infinities_told p d ∙ ap₂ (λ (x : ℕ) (y : List ℕ). infinities_of (is_signed x) y) f is in
      let where_is : first ≡ first_below (infinite_at (picture_at store n)) value_count = e ∙ ap (λ (l : List ℕ). first_below (infinite_at l) value_count) shows in
      rw u (ap₂ (λ (x y : ℕ). record { infinite = x; first = y }) many where_is)

  pub line : {l m₁ m₂ m₃ m₄ m₅ : List ℕ} {at e₁ e₂ e₃ e₄ e₅ tile : ℕ} (finding : Finding) → tile ≡ tile_at store n → Written l at (field n) e₁ m₁
      → Written m₁ e₁ (field tile) e₂ m₂ → Written m₂ e₂ (field finding.infinite) e₃ m₃ → Written m₃ e₃ (field (finding.first / 3)) e₄ m₄
      → Written m₄ e₄ (channel_word (finding.first % 3)) e₅ m₅ → Written l at (finding_line store n finding) e₅ m₅
  unfolding finding_line
  line finding t x y z v w = said (then (then (then (then x y) z) v) w) (rw t)

-- ---- the lines and the counts

module _ (store : List ℕ) (n : ℕ) {finding : Finding} (is : finding ≡ finding_of store n) where
  module _ (none : finding.infinite ≡ 0) where
    no_value : (finding_of store n).infinite ≡ 0
    no_value = ap (λ (f : Finding). f.infinite) (sym is) ∙ none

    pub line_skipped : {l m : List ℕ} {e : ℕ} → Written l 0 (infinite_lines store n) e m → Written l 0 (infinite_lines store (n + 1)) e m
    unfolding infinite_line
    line_skipped = lines.line_skipped (infinite_line store) n (rw (eq-eqb _ _ no_value))

    pub count_skipped : {records values : ℕ} → Counted store n records values → Counted store (n + 1) records values
    unfolding records_with values_with
    count_skipped c = record {
      records_is = c.records_is ∙ rw (add-one n, eq-eqb _ _ no_value) (omega arith);
      values_is = c.values_is ∙ rw (add-one n, no_value) (omega arith);
      few = let f = c.few in (omega arith, omega arith);
    }

  module _ (some : finding.infinite ≡ 0 → ⊥) where
    a_value : (finding_of store n).infinite ≡ 0 → ⊥
    a_value e = some (ap (λ (f : Finding). f.infinite) is ∙ e)

    pub line_more : {l m₁ m₂ : List ℕ} {e₁ e₂ : ℕ} → Written l 0 (infinite_lines store n) e₁ m₁ → Written m₁ e₁ (finding_line store n finding) e₂ m₂
        → Written l 0 (infinite_lines store (n + 1)) e₂ m₂
    unfolding infinite_line
    line_more x y = lines.line_more (infinite_line store) n x (said y (rw (ne_eqb _ _ a_value, sym is)))

    pub count_more : {records values : ℕ} → Counted store n records values → finding.infinite ≤ 65535
        → Counted store (n + 1) (records + 1) (values + finding.infinite)
    unfolding records_with values_with
    count_more c few = record {
      records_is = ap (λ (k : ℕ). k + 1) c.records_is ∙ rw (add-one n, ne_eqb _ _ a_value);
      values_is = ap₂ (λ (a b : ℕ). a + b) c.values_is (ap (λ (f : Finding). f.infinite) is) ∙ rw (add-one n);
      few = let f = c.few in (omega arith, omega arith);
    }

module _ (store : List ℕ) where
  pub no_counts : Counted store 0 0 0
  unfolding records_with values_with
  no_counts = record { records_is = refl; values_is = refl; few = (omega arith, omega arith) }

  -- the loop is done
  pub counted : {l m₁ m₂ : List ℕ} {e₁ e₂ records values : ℕ} (n count : ℕ) → n ≤ count → count ≤ n → Counted store n records values
      → Written l 0 (infinite_lines store n) e₁ m₁ → Written m₁ e₁ (counts_line records values) e₂ m₂
      → Written l 0 (infinite_lines store count ++ counts_of store count) e₂ m₂
  unfolding counts_of
  counted n count h k c x y =
      let is : n ≡ count = omega arith in
      said (then x y) (rw (is, rw is at c.records_is, rw is at c.values_is))

  pub refused_text : (answer : ℕ) → answer ≡ list_refusal (length store) most_records → (answer ≡ done → ⊥) → refusal_line answer ≡ infinities_text store
  unfolding infinities_text
  refused_text zero e r = absurd (r refl)
  refused_text (suc a) e r = rw (sym e)

  pub done_text : list_refusal (length store) most_records ≡ done
      → infinite_lines store (records_in store) ++ counts_of store (records_in store) ≡ infinities_text store
  unfolding infinities_text
  done_text e = rw e
