-- The lines of a clean-up, as a loop over the records makes them, the whole text, and the cleaned store behind it. Assumes nothing.
use mathlib.Core.Path.{◌≡◌, refl, sym, ap, ◌∙◌}
use mathlib.Core.List.{List}
use Prim.Native.Nat.{ℕ, zero, suc, ◌+◌, ◌-◌, ◌*◌, ◌≤◌, ◌<◌}
use native.Mathlib.Omega.{arith}
use lib.Dec.{eqb}
use lib.ListN.{length, take, length-take}
use borrow.Author.Tests.{lt-ltb, le-ltb, eqb-true, eqb-false}
use Rattle.laws.proofs.Tests.{cases}
use Rattle.bcn_spec.specs.Answers.{done}
use Rattle.store_records.specs.Store.{record_size, store_limit, records_in, tile_at, most_records}
use Rattle.store_spec.specs.Twins.{list_refusal}
use Rattle.store_clean.specs.declared.Cleaned.{Cleaned}
use Rattle.store_clean.specs.Clean.{first_of, goes, answer_at, CleanedInto}
use Rattle.store_clean.proofs.Cleaning as cleaning
use Rattle.text.specs.Text.{line_feed, decimal, field, refusal_line, Written}
use Rattle.text.proofs.Texts.{then, said}
use Rattle.text.proofs.Lines as lines
use Rattle.text_clean.specs.CleanText.{removed_line, line_of, removed_lines, counts_line, cleaning_text, left_at, cleaning_output}

-- ---- a line

pub line_put : (store : List ℕ) (n first : ℕ) {l m₁ m₂ m₃ m₄ m₅ : List ℕ} {at e₁ e₂ e₃ e₄ e₅ tile other : ℕ} → tile ≡ tile_at store n
    → other ≡ tile_at store first → Written l at (field n) e₁ m₁ → Written m₁ e₁ (field tile) e₂ m₂ → Written m₂ e₂ (field first) e₃ m₃
    → Written m₃ e₃ (decimal other) e₄ m₄ → Written m₄ e₄ line_feed e₅ m₅ → Written l at (removed_line store n first) e₅ m₅
unfolding removed_line
line_put store n first t o x y z w v = said (then (then (then (then x y) z) w) v) (rw (t, o))

-- ---- the loop over the records

module _ (store : List ℕ) (n first : ℕ) (e : first ≡ first_of store n) where
  pub line_skipped : {l m : List ℕ} {at r : ℕ} → n ≤ first → Written l at (removed_lines store n) r m → Written l at (removed_lines store (n + 1)) r m
  unfolding line_of goes
  line_skipped h = lines.line_skipped (line_of store) n (rw (le-ltb (first_of store n) n (omega arith)))

  pub line_more : {l m₁ m₂ : List ℕ} {at r s : ℕ} → first < n → Written l at (removed_lines store n) r m₁ → Written m₁ r (removed_line store n first) s m₂
      → Written l at (removed_lines store (n + 1)) s m₂
  unfolding line_of goes
  line_more h x y = lines.line_more (line_of store) n x (said y (ap (removed_line store n) e ∙ rw (lt-ltb (first_of store n) n (omega arith))))

-- ---- the whole

module _ (store : List ℕ) where
  module _ (cleaned : Cleaned) (c : cleaned ≡ answer_at (list_refusal (length store) most_records) store) where
    number : cleaned.answer ≡ list_refusal (length store) most_records
    number = ap (λ (x : Cleaned). x.answer) c ∙ cleaning.answer_is (list_refusal (length store) most_records) store

    pub refused_text : (cleaned.answer ≡ done → ⊥) → refusal_line cleaned.answer ≡ cleaning_text store
    unfolding cleaning_text
    refused_text z = let s : list_refusal (length store) most_records ≡ suc (cleaned.answer - 1) = omega (arith, number) in rw (number, s)

    pub few : cleaned.answer ≡ done → list_refusal (length store) most_records ≡ done
    few z = sym number ∙ z

    pub done_text : {l m₁ m₂ : List ℕ} {r s : ℕ} → cleaned.answer ≡ done → Written l 0 (removed_lines store (records_in store)) r m₁
        → Written m₁ r (counts_line cleaned.kept cleaned.removed) s m₂ → Written l 0 (cleaning_text store) s m₂
    unfolding cleaning_text
    done_text z x y =
        let e : cleaned ≡ answer_at done store = rw (few z) at c in
        said (then x y) (rw (few z, ap (λ (v : Cleaned). v.kept) e, ap (λ (v : Cleaned). v.removed) e))

-- ---- the cleaned store behind the text

module _ {store lent after : List ℕ} {r : Cleaned} (room : length lent ≡ store_limit) (d : CleanedInto store lent r after) where
  number_is : r.answer ≡ list_refusal (length store) most_records
  number_is = rw room at (cleaning.answer_number d)

  pub cleaned_is : r ≡ answer_at (list_refusal (length store) most_records) store
  cleaned_is = rw room at d.answers

  pub left_size : r.kept * record_size ≤ store_limit
  left_size =
      cases (eqb r.answer done)
      (λ t. let z = eqb-true _ _ t in
      let w = cleaning.whole d z in
      let a = cleaning.counts_add_up d z in
      omega arith)
      (λ f. rw (cleaning.refused_alone d (eqb-false _ _ f)) (omega arith))

  pub left_fits : length (take (r.kept * record_size) after) ≤ store_limit
  left_fits = let n = left_size in simp length-take (omega arith)

  left_is : take (r.kept * record_size) after ≡ left_at (list_refusal (length store) most_records) store
  left_is = go (list_refusal (length store) most_records) refl
    where
      go : (k : ℕ) → list_refusal (length store) most_records ≡ k → take (r.kept * record_size) after ≡ left_at k store
      go zero q = cleaning.front_is d (number_is ∙ q)
      go (suc k) q = rw (cleaning.refused_alone d (λ z. omega (arith, q, number_is, z)))

  pub output_put : {l m₁ m₂ : List ℕ} {e₁ e₂ : ℕ} → Written l 0 (cleaning_text store) e₁ m₁ → Written m₁ e₁ (take (r.kept * record_size) after) e₂ m₂
      → Written l 0 (cleaning_output store) e₂ m₂
  unfolding cleaning_output
  output_put x y = then x (said y left_is)
