-- The listing whole: by the store's answer its lines and counts, or the line of a refused store. Assumes nothing.
use mathlib.Core.Path.{◌≡◌, refl, sym, ap, ◌∙◌}
use mathlib.Core.Bool.{Bool, true, false}
use mathlib.Core.List.{List, [], ◌∷◌}
use Prim.Native.Nat.{ℕ, zero, suc, ◌-◌, ◌≤◌, ◌<◌}
use native.Mathlib.Omega.{arith}
use lib.Dec.{eqb}
use lib.ListN.{length, get_or, take, drop, length-drop}
use lib.Seq.{take_all}
use borrow.Author.Tests.{lt-ltb, le-ltb}
use Rattle.laws.specs.Checks.{or_next}
use Rattle.bcn_spec.specs.Answers.{done, reserved_block}
use Rattle.store_records.specs.Store.{most_records}
use Rattle.probe_places.specs.Places.{places_in}
use Rattle.store_faulty.specs.declared.FaultCounts.{FaultCounts}
use Rattle.store_faulty.specs.Faulty.{placed_form, form_of, store_refusal, counts_of}
use Rattle.store_faulty.proofs.Forms.{fits}
use Rattle.text.specs.Text.{refusal_line, Written}
use Rattle.text.proofs.Texts.{then, said}
use Rattle.text_places.specs.declared.PlaceCounts.{PlaceCounts}
use Rattle.text_places.specs.Lines.{lines_of, place_counts, counts_line}
use Rattle.text_places.specs.Listing.{strict_number, listing_refusal, listing_text, listing_of}

-- ---- why it is refused

module _ (store : List ℕ) (strict : Bool) where
  pub store_refused : {r : ℕ} → r ≡ store_refusal (form_of 32) (length store) → (r ≡ done → ⊥) → r ≡ listing_refusal strict store
  unfolding listing_refusal form_of
  store_refused {r} e z = go (store_refusal placed_form (length store)) e
    where
      go : (a : ℕ) → r ≡ a → r ≡ or_next a (strict_number strict store)
      go zero q = absurd (z q)
      go (suc a) q = q

  module _ (whole : store_refusal (form_of 32) (length store) ≡ done) where
    pub lenient : strict ≡ false → done ≡ listing_refusal strict store
    unfolding listing_refusal form_of
    lenient s = rw (whole, s)

    module _ (s : strict ≡ true) {counts : FaultCounts} (is : counts ≡ counts_of (form_of 32) store) where
      pub damaged : 0 < counts.damaged → reserved_block ≡ listing_refusal strict store
      unfolding listing_refusal form_of
      damaged h = rw (whole, s, sym is, lt-ltb 0 counts.damaged h)

      pub sound : counts.damaged ≤ 0 → done ≡ listing_refusal strict store
      unfolding listing_refusal form_of
      sound h = rw (whole, s, sym is, le-ltb 0 counts.damaged h)

  pub is_whole : listing_refusal strict store ≡ done → store_refusal placed_form (length store) ≡ done
  unfolding listing_refusal
  is_whole e = go (store_refusal placed_form (length store)) e
    where
      go : (a : ℕ) → or_next a (strict_number strict store) ≡ done → a ≡ done
      go zero q = refl
      go (suc a) q = absurd (omega arith)

  pub few : {r : ℕ} → r ≡ listing_refusal strict store → r ≡ done → places_in store ≤ most_records
  few e z = omega (arith, fits placed_form (length store) (is_whole (sym e ∙ z)))

  -- ---- the text

  pub refused_text : (answer : ℕ) → answer ≡ listing_refusal strict store → (answer ≡ done → ⊥) → refusal_line answer ≡ listing_text strict store
  unfolding listing_text
  refused_text zero e r = absurd (r refl)
  refused_text (suc a) e r = rw (sym e)

  pub done_text : {l m₁ m₂ : List ℕ} {e₁ e₂ r : ℕ} {counts : PlaceCounts} → r ≡ listing_refusal strict store → r ≡ done
      → Written l 0 (lines_of store (places_in store)) e₁ m₁ → counts ≡ place_counts store → Written m₁ e₁ (counts_line counts) e₂ m₂
      → Written l 0 (listing_text strict store) e₂ m₂
  unfolding listing_text
  done_text e z x c y = let none : listing_refusal strict store ≡ done = sym e ∙ z in said (then x y) (rw (none, c))

-- no byte at all is an empty store
pub no_input : (input : List ℕ) → length input ≡ 0 → listing_text false input ≡ listing_of input
unfolding listing_of
no_input [] e = refl
no_input (x ∷ xs) e = absurd (omega arith)

pub rest_input : (input : List ℕ) → listing_text (eqb (get_or input 0 0) 1) (take (length input - 1) (drop 1 input)) ≡ listing_of input
unfolding listing_of
rest_input input = ap (listing_text (eqb (get_or input 0 0) 1)) (take_all (length input - 1) (drop 1 input) (simp length-drop (omega arith)))
