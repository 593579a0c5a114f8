-- The listing whole: by the store's answer its lines and counts, or the line of a refused store. Assumes nothing.
use mathlib.Core.Path.{◌≡◌, refl, sym, ◌∙◌}
use mathlib.Core.Bool.{Bool, true, false}
use mathlib.Core.List.{List}
use Prim.Native.Nat.{ℕ, zero, suc}
use lib.ListN.{length}
use Rattle.bcn_spec.specs.Answers.{done}
use Rattle.store_records.specs.Store.{records_in, most_records}
use Rattle.store_spec.specs.declared.TwinList.{TwinList}
use Rattle.store_spec.specs.Twins.{list_refusal, answer_at, Listed}
use Rattle.store_spec.proofs.Listing as listed
use Rattle.store_twins.specs.Strict.{StrictlyListed}
use Rattle.store_twins.proofs.Strictness as strictly
use Rattle.text.specs.Text.{refusal_line, Written}
use Rattle.text.proofs.Texts.{then, said}
use Rattle.text_list.specs.Lines.{lines_of, counts_line}
use Rattle.run_list.specs.Listing.{counts_of, listing_refusal, listing_of}

module _ {store lent after : List ℕ} {strict : Bool} (room : length lent ≡ most_records) where
  pub strict_number : {r : TwinList} → strict ≡ true → StrictlyListed store lent r after → r.answer ≡ listing_refusal strict store
  unfolding listing_refusal
  strict_number s d = strictly.answer_number d ∙ rw (s, room)

  pub ordinary_number : {r : TwinList} → strict ≡ false → Listed store lent r after → r.answer ≡ listing_refusal strict store
  unfolding listing_refusal
  ordinary_number s d = listed.answer_number d ∙ rw (s, room)

module _ (store : List ℕ) (strict : Bool) where
  pub refused_text : (answer : ℕ) → answer ≡ listing_refusal strict store → (answer ≡ done → ⊥) → refusal_line answer ≡ listing_of strict store
  unfolding listing_of
  refused_text zero e r = absurd (r refl)
  refused_text (suc a) e r = rw (sym e)

  pub whole_text : {lent after l m₁ m₂ : List ℕ} {e₁ e₂ : ℕ} {r : TwinList} → r.answer ≡ listing_refusal strict store → r.answer ≡ done → Listed store lent r after
      → Written l 0 (lines_of store (records_in store)) e₁ m₁ → Written m₁ e₁ (counts_line r.kept r.twins r.bad) e₂ m₂
      → Written l 0 (listing_of strict store) e₂ m₂
  unfolding listing_of counts_of
  whole_text {lent} {after} {l} {m₁} {m₂} {e₁} {e₂} {r} a z d x y =
      let fine : list_refusal (length store) (length lent) ≡ done = sym (listed.answer_number d) ∙ z in
      let counts : r ≡ answer_at done store = rw fine at d.answers in
      let none : listing_refusal strict store ≡ done = sym a ∙ z in
      said (then x y) (rw (none, counts))
