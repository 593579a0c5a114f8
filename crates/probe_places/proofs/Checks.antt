-- Which check refuses a place and a record. Assumes nothing.
use mathlib.Core.Path.{◌≡◌, sym, ◌∙◌}
use mathlib.Core.Bool.{Bool, true, false}
use mathlib.Core.List.{List}
use Prim.Native.Nat.{ℕ, ◌+◌, ◌≤◌, ◌<◌}
use native.Mathlib.Omega.{arith}
use lib.ListN.{length, get_or}
use Rattle.std.specs.List.{HoldsAt, AllWithin}
use Rattle.std.specs.Prelude.{MatchBool}
use borrow.Author.Tests.{lt-ltb, le-ltb, eq-eqb, ne_eqb, ltb-false, eqb-true, not-false}
use Rattle.laws.proofs.Tests.{below_at}
use Rattle.laws.proofs.Checks.{none_met, no_number}
use Rattle.laws.proofs.Search.{holds, is_true}
use Rattle.laws.proofs.Below.{below_all, below_fails}
use Rattle.bcn_spec.specs.Answers.{done, bad_format, spare_byte, bad_place}
use Rattle.probe_places.specs.declared.Place.{Place}
use Rattle.probe_places.specs.Places.{face_count, no_face, byte_at, format_in, face_in, column_in, row_in, place_in, zero_byte, rest_zero, place_checks, place_refusal, place_record_checks, place_record_refusal}

-- ---- a place

module _ (p : Place) where
  pub on_face : p.face < face_count → done ≡ place_refusal p
  unfolding place_refusal
  on_face h = rw (lt-ltb p.face face_count h)

  pub off_face : face_count ≤ p.face → (p.face ≡ no_face → ⊥) → bad_place ≡ place_refusal p
  unfolding place_refusal
  off_face h f = rw (le-ltb _ _ h, ne_eqb p.face no_face f)

  pub with_column : p.face ≡ no_face → (p.column ≡ 0 → ⊥) → bad_place ≡ place_refusal p
  unfolding place_refusal
  with_column f c = rw (f, ne_eqb p.column 0 c)

  pub with_row : p.face ≡ no_face → p.column ≡ 0 → (p.row ≡ 0 → ⊥) → bad_place ≡ place_refusal p
  unfolding place_refusal
  with_row f c r = rw (f, c, ne_eqb p.row 0 r)

  pub without : p.face ≡ no_face → p.column ≡ 0 → p.row ≡ 0 → done ≡ place_refusal p
  unfolding place_refusal
  without f c r = rw (f, c, r)

-- ---- a record

module _ (store : List ℕ) (n : ℕ) where
  pub place_is : {column row : ℕ} → column ≡ column_in store n → row ≡ row_in store n
      → record { face = face_in store n; column = column; row = row } ≡ place_in store n
  place_is e f = rw (e, f)

  -- what a look at the six bytes answers
  pub rest_is : (bytes : List ℕ) (r : Bool) → length bytes ≡ 6 → ((k : ℕ) → k < 6 → get_or bytes k 0 ≡ byte_at store n (10 + k))
      → MatchBool r (AllWithin (λ b. b ≡ 0) bytes 0 (length bytes)) ((k : ℕ) × (k < length bytes) × HoldsAt (λ b. b ≡ 0 → ⊥) bytes k) → r ≡ rest_zero store n
  unfolding zero_byte rest_zero
  rest_is bytes true len at h =
      sym (is_true _ (below_all (zero_byte store n) 6 (λ k l. holds (eq-eqb _ _ (sym (at k l) ∙ h k 0 (omega arith) (omega arith))))))
  rest_is bytes false len at h =
      let l : h.0 < 6 = omega (arith, h.1) in
      below_fails (zero_byte store n) 6 h.0 (ne_eqb _ _ (λ e. h.2 0 (at h.0 l ∙ e))) l

  pub bad_format_lem : 1 < format_in store n → bad_format ≡ place_record_refusal store n
  unfolding place_record_refusal
  bad_format_lem h = rw (lt-ltb 1 (format_in store n) h)

  pub bad_rest : format_in store n ≤ 1 → rest_zero store n ≡ false → spare_byte ≡ place_record_refusal store n
  unfolding place_record_refusal
  bad_rest h z = rw (le-ltb _ _ h, z)

  pub by_place : {p : Place} {r : ℕ} → format_in store n ≤ 1 → rest_zero store n ≡ true → p ≡ place_in store n → r ≡ place_refusal p
      → r ≡ place_record_refusal store n
  unfolding place_record_refusal place_refusal
  by_place h z e q = q ∙ rw (le-ltb _ _ h, z, e)

  -- a record that is not refused, in words
  pub record Fine : Type 0 where
    pub small : format_in store n ≤ 1
    pub zeros : (k : ℕ) → k < 6 → byte_at store n (10 + k) ≡ 0
    pub place : place_refusal (place_in store n) ≡ done

  pub fine : place_record_refusal store n ≡ done → Fine
  unfolding place_record_refusal place_refusal zero_byte rest_zero
  fine e =
      let m = none_met (place_record_checks store n) tt e in
      record {
        small = ltb-false _ _ m.0;
        zeros = λ k h. eqb-true _ _ (is_true _ (below_at (zero_byte store n) 6 k (holds (not-false (rest_zero store n) m.1.0)) h));
        place = no_number (place_checks (place_in store n)) m.1.1;
      }

  pub fine_so : Fine → place_record_refusal store n ≡ done
  unfolding place_record_refusal place_refusal zero_byte rest_zero
  fine_so f =
      let z : rest_zero store n ≡ true = is_true _ (below_all (zero_byte store n) 6 (λ k h. holds (eq-eqb _ _ (f.zeros k h)))) in
      rw (le-ltb _ _ f.small, z) f.place
