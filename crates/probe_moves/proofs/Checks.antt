-- Which check refuses a record on the way back, and a store. Assumes nothing.
use mathlib.Core.Path.{◌≡◌, sym, ◌∙◌}
use mathlib.Core.List.{List}
use Prim.Native.Nat.{ℕ, suc, ◌-◌, ◌*◌, ◌/◌, ◌%◌, ◌≤◌, ◌<◌}
use native.Mathlib.Omega.{arith}
use borrow.Author.Tests.{lt-ltb, le-ltb, eq-eqb, ne_eqb, ltb-false, eqb-true, not-false}
use Rattle.laws.proofs.Checks.{none_met}
use Rattle.bcn_spec.specs.Answers.{done, short_output, long_store, uneven_store, placed_record}
use Rattle.probe_places.specs.declared.Place.{Place}
use Rattle.probe_places.specs.Places.{face_count, face_in, place_in, place_record_refusal}
use Rattle.probe_moves.specs.Moves.{size_checks, size_refusal, back_refusal}

-- ---- a record on the way back

module _ (store : List ℕ) (n : ℕ) where
  pub refused_before : {r : ℕ} → r ≡ place_record_refusal store n → (r ≡ done → ⊥) → r ≡ back_refusal store n
  unfolding back_refusal
  refused_before {r} e z = let s : place_record_refusal store n ≡ suc (r - 1) = omega arith in rw s (omega arith)

  pub is_placed : {r : ℕ} {p : Place} → r ≡ place_record_refusal store n → r ≡ done → p ≡ place_in store n → p.face < face_count → placed_record ≡ back_refusal store n
  unfolding back_refusal
  is_placed {r} {p} e z q h =
      let l : face_in store n < face_count = rw q at h in
      let d : place_record_refusal store n ≡ done = sym e ∙ z in
      rw (d, lt-ltb _ _ l)

  pub not_placed : {r : ℕ} {p : Place} → r ≡ place_record_refusal store n → r ≡ done → p ≡ place_in store n → face_count ≤ p.face → done ≡ back_refusal store n
  unfolding back_refusal
  not_placed {r} {p} e z q h =
      let l : face_count ≤ face_in store n = rw q at h in
      let d : place_record_refusal store n ≡ done = sym e ∙ z in
      rw (d, le-ltb _ _ l)

-- ---- a store's size and the room

module _ (limit from to size room : ℕ) where
  pub long : limit < size → size_refusal limit from to size room ≡ long_store
  unfolding size_refusal
  long h = rw (lt-ltb _ _ h)

  pub uneven : size ≤ limit → (size % from ≡ 0 → ⊥) → size_refusal limit from to size room ≡ uneven_store
  unfolding size_refusal
  uneven h w = rw (le-ltb _ _ h, ne_eqb _ _ w)

  pub short : size ≤ limit → size % from ≡ 0 → room < size / from * to → size_refusal limit from to size room ≡ short_output
  unfolding size_refusal
  short h w l = rw (le-ltb _ _ h, eq-eqb _ _ w, lt-ltb _ _ l)

  pub enough : size ≤ limit → size % from ≡ 0 → size / from * to ≤ room → size_refusal limit from to size room ≡ done
  unfolding size_refusal
  enough h w l = rw (le-ltb _ _ h, eq-eqb _ _ w, le-ltb _ _ l)

  pub record Sized : Type 0 where
    pub fits : size ≤ limit
    pub even : size % from ≡ 0
    pub enough_room : size / from * to ≤ room

  pub sized : size_refusal limit from to size room ≡ done → Sized
  unfolding size_refusal
  sized z =
      let m = none_met (size_checks limit from to size room) tt z in
      record { fits = ltb-false _ _ m.0; even = eqb-true _ _ (not-false _ m.1.0); enough_room = ltb-false _ _ m.1.1.0 }
