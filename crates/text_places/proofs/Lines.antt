-- The lines of the listing of records with a place, as they are put behind each other. Assumes nothing.
use mathlib.Core.Path.{◌≡◌, refl, ap}
use mathlib.Core.List.{List, [], ◌∷◌}
use Prim.Native.Nat.{ℕ, zero, suc, ◌≤◌, ◌<◌}
use lib.ListN.{get_or}
use borrow.Author.Tests.{lt-ltb, le-ltb}
use Rattle.bcn_spec.specs.Answers.{done}
use Rattle.bc6h_spec.specs.Fields.{mode_of}
use Rattle.probe_places.specs.declared.Place.{Place}
use Rattle.probe_places.specs.declared.PlacedRecord.{PlacedRecord}
use Rattle.probe_places.specs.declared.PlacedReading.{PlacedReading}
use Rattle.probe_places.specs.declared.PlacedReading.TheVariants as reading
use Rattle.probe_places.specs.Places.{face_count, places_in, tile_in, format_in, place_in}
use Rattle.probe_places.specs.Readings.{placed_refusal, Readable, PlacedRead}
use Rattle.probe_places.proofs.Checks.{fine}
use Rattle.probe_places.proofs.Readings.{known, record_is}
use Rattle.probe.specs.Probe.{triple_at}
use Rattle.store_faulty.specs.Faulty.{form_of}
use Rattle.text.specs.Text.{blank, field, decimal, Written}
use Rattle.text.proofs.Texts.{then, said}
use Rattle.text_list.specs.Lines.{hex_triple}
use Rattle.text_places.specs.Lines.{place_words, record_words, shown_rest, refused_rest, rest_at, line_of}

-- ---- a place

module _ (p : Place) where
  pub no_place : face_count ≤ p.face → 45 ∷ 32 ∷ 45 ∷ 32 ∷ 45 ∷ [] ≡ place_words p
  unfolding place_words
  no_place h = rw (le-ltb p.face face_count h)

  pub with_place : {l m₁ m₂ m₃ : List ℕ} {at e₁ e₂ e₃ : ℕ} → p.face < face_count → Written l at (field p.face) e₁ m₁
      → Written m₁ e₁ (field p.column) e₂ m₂ → Written m₂ e₂ (decimal p.row) e₃ m₃ → Written l at (place_words p) e₃ m₃
  unfolding place_words
  with_place h x y z = said (then (then x y) z) (rw (lt-ltb p.face face_count h))

-- ---- a record that is not refused

module _ (store : List ℕ) (n : ℕ) where
  pub in_format : (pixel : ℕ) → pixel < 16 → Readable store n → (n < places_in store) × (format_in store n ≤ 1) × (pixel < 16)
  in_format pixel h u = let k = known store n u in (k.below, (fine store n k.unrefused).small, h)

  pub readable : Readable store n → (form_of 32).refusal store n ≡ done
  unfolding form_of
  readable u = u

pub place_is : {store : List ℕ} {n : ℕ} {x : PlacedReading} {r : PlacedRecord} → PlacedRead store n x → x ≡ reading.Record r → r.place ≡ place_in store n
place_is d e = ap (λ (r : PlacedRecord). r.place) (record_is d e)

-- ---- a line

module _ (store : List ℕ) (n : ℕ) where
  pub number : {l m₁ m₂ : List ℕ} {at e₁ e₂ tile : ℕ} → tile ≡ tile_in store n → Written l at (field n) e₁ m₁
      → Written m₁ e₁ (field tile) e₂ m₂ → Written l at (record_words store n) e₂ m₂
  unfolding record_words
  number t x y = said (then x y) (rw t)

  pub shown : {l m₁ m₂ m₃ m₄ : List ℕ} {at e₁ e₂ e₃ e₄ mode : ℕ} {place : Place} (triple : List ℕ) → mode ≡ mode_of ((form_of 32).block store n)
      → place ≡ place_in store n → triple ≡ triple_at store n 15 → Written l at (field mode) e₁ m₁ → Written m₁ e₁ (place_words place) e₂ m₂
      → Written m₂ e₂ blank e₃ m₃ → Written m₃ e₃ (hex_triple (get_or triple 0 0) (get_or triple 1 0) (get_or triple 2 0)) e₄ m₄
      → Written l at (shown_rest store n) e₄ m₄
  unfolding shown_rest form_of
  shown triple m p t x y z w = said (then (then (then x y) z) w) (rw (m, p, t))

  rest_refused : (a : ℕ) → (a ≡ done → ⊥) → refused_rest ≡ rest_at a store n
  rest_refused zero r = absurd (r refl)
  rest_refused (suc a) r = refl

  module _ {l m₁ m₂ m₃ : List ℕ} {at e₁ e₂ e₃ answer : ℕ} (a : answer ≡ placed_refusal store n)
      (x : Written l at (record_words store n) e₁ m₁) (y : Written m₁ e₁ (field answer) e₂ m₂) where
    line : {rest : List ℕ} → rest ≡ rest_at (placed_refusal store n) store n → Written m₂ e₂ rest e₃ m₃ → Written l at (line_of store n) e₃ m₃
    unfolding line_of
    line r w = said (then (then x y) w) (rw (a, r))

    pub refused_line : (Readable store n → ⊥) → Written m₂ e₂ refused_rest e₃ m₃ → Written l at (line_of store n) e₃ m₃
    refused_line r w = line (rest_refused (placed_refusal store n) r) w

    pub shown_line : Readable store n → Written m₂ e₂ (shown_rest store n) e₃ m₃ → Written l at (line_of store n) e₃ m₃
    shown_line u w = line (rw u) w
