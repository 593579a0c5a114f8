-- Which check refuses a place for a record. Assumes nothing.
use mathlib.Core.Path.{◌≡◌, sym, ◌∙◌, ap}
use mathlib.Core.List.{List}
use Prim.Native.Nat.{ℕ, ◌+◌, ◌*◌, ◌/◌, ◌%◌, ◌≤◌, ◌<◌}
use native.Mathlib.Omega.{arith}
use lib.Dec.{eqb, ltb}
use lib.ListN.{length}
use borrow.Author.Tests.{lt-ltb, le-ltb, eq-eqb, ne_eqb, ltb-true, ltb-false, eqb-true, eqb-false}
use Rattle.laws.proofs.Tests.{cases, below_at}
use Rattle.laws.proofs.Search.{holds, is_true}
use Rattle.bcn_spec.specs.Answers.{done, bad_place, no_record, long_store, uneven_store, short_output}
use Rattle.probe_places.specs.declared.Fault.{Fault}
use Rattle.probe_places.specs.declared.Place.{Place}
use Rattle.probe_places.specs.Faults.{fault_alone}
use Rattle.probe_places.specs.Places.{place_size, place_limit, places_in, byte_at, format_in, zero_byte, rest_zero, place_refusal, place_record_refusal}
use Rattle.probe_places.proofs.Faults.{whole_done}
use Rattle.probe_moves.specs.Moves.{size_refusal}
use Rattle.probe_moves.proofs.Checks.{sized, enough}
use Rattle.probe_put.specs.Put.{put_sizes, own_refusal, record_fault, putting_fault}

-- ---- the record

module _ (store : List ℕ) (n : ℕ) where
  pub head_other : {r : ℕ} → r ≡ place_record_refusal store n → r ≡ bad_place → done ≡ own_refusal store n
  unfolding own_refusal
  head_other e p = rw (eq-eqb _ _ (sym e ∙ p))

  pub head_own : {r : ℕ} → r ≡ place_record_refusal store n → (r ≡ bad_place → ⊥) → r ≡ own_refusal store n
  unfolding own_refusal
  head_own e p = rw (ne_eqb _ _ (λ q. p (e ∙ q))) e

  -- a record with neither 1 nor 7
  pub head_fine : own_refusal store n ≡ done → (format_in store n ≤ 1) × ((j : ℕ) → j < 6 → byte_at store n (10 + j) ≡ 0)
  unfolding own_refusal place_record_refusal zero_byte rest_zero
  head_fine z =
      cases (ltb 1 (format_in store n)) (λ t. absurd (omega (arith, rw t at z)))
      (λ f. cases (rest_zero store n)
      (λ s. (ltb-false _ _ f, λ j h. eqb-true _ _ (is_true _ (below_at (zero_byte store n) 6 j (holds s) h))))
      (λ s. absurd (omega (arith, rw (f, s) at z))))

-- ---- the store

module _ (store : List ℕ) (n : ℕ) (p : Place) (room : ℕ) where
  pub put_long : {r : Fault} → place_limit < length store → r ≡ fault_alone long_store → r ≡ putting_fault store n p room
  unfolding putting_fault size_refusal
  put_long h e = e ∙ rw (lt-ltb _ _ h)

  module _ (a : length store ≤ place_limit) where
    pub put_uneven : {r : Fault} → (length store % place_size ≡ 0 → ⊥) → r ≡ fault_alone uneven_store → r ≡ putting_fault store n p room
    unfolding putting_fault size_refusal
    put_uneven h e = e ∙ rw (le-ltb _ _ a, ne_eqb _ _ h)

    module _ (b : length store % place_size ≡ 0) where
      whole : length store / place_size * place_size ≡ length store
      whole = omega arith

      pub put_short : {r : Fault} → room < length store → r ≡ fault_alone short_output → r ≡ putting_fault store n p room
      unfolding putting_fault size_refusal
      put_short h e = e ∙ rw (le-ltb _ _ a, eq-eqb _ _ b, lt-ltb room (length store / place_size * place_size) (omega (arith, whole)))

      module _ (d : length store ≤ room) where
        sizes : put_sizes (length store) room ≡ done
        sizes = enough place_limit place_size place_size (length store) room a b (omega (arith, whole))

        pub put_past : {r : Fault} → places_in store ≤ n → r ≡ fault_alone no_record → r ≡ putting_fault store n p room
        unfolding putting_fault record_fault
        put_past h e = e ∙ rw (sizes, le-ltb n (places_in store) h)

        module _ (l : n < places_in store) where
          pub put_head : {r : ℕ} → r ≡ own_refusal store n → (r ≡ done → ⊥) → record { answer = r; faulty = n } ≡ putting_fault store n p room
          unfolding putting_fault record_fault
          put_head e z = rw (sizes, lt-ltb n (places_in store) l, ne_eqb (own_refusal store n) done (λ q. z (e ∙ q)), e)

          pub put_place : {r : Fault} {k h : ℕ} → h ≡ own_refusal store n → h ≡ done → k ≡ place_refusal p → r ≡ fault_alone k → r ≡ putting_fault store n p room
          unfolding putting_fault record_fault
          put_place g z e q = q ∙ rw (sizes, lt-ltb n (places_in store) l, eq-eqb (own_refusal store n) done (sym g ∙ z), e)

-- ---- what "done" says

pub record Puttable (store : List ℕ) (n : ℕ) (p : Place) (room : ℕ) : Type 0 where
  pub fits : length store ≤ place_limit
  pub even : length store % place_size ≡ 0
  pub enough_room : length store ≤ room
  pub inside : n < places_in store
  pub head : own_refusal store n ≡ done
  pub place : place_refusal p ≡ done

pub puttable : (store : List ℕ) (n : ℕ) (p : Place) (room : ℕ) {fault : Fault} → fault ≡ putting_fault store n p room → fault.answer ≡ done → Puttable store n p room
unfolding putting_fault record_fault
puttable store n p room e y =
    let z : (putting_fault store n p room).answer ≡ done = sym (ap (λ (x : Fault). x.answer) e) ∙ y in
    let w = whole_done (put_sizes (length store) room) _ z in
    let s = sized place_limit place_size place_size (length store) room w.0 in
    let even : length store % place_size ≡ 0 = s.even in
    let more : places_in store * place_size ≤ room = s.enough_room in
    cases (ltb n (places_in store))
    (λ t. cases (eqb (own_refusal store n) done)
    (λ h. record {
      fits = s.fits;
      even = even;
      enough_room = omega arith;
      inside = ltb-true _ _ t;
      head = eqb-true _ _ h;
      place = rw (t, h) at w.1;
    })
    (λ h. absurd (eqb-false _ _ h (rw (t, h) at w.1))))
    (λ t. absurd (omega (arith, rw t at w.1)))
