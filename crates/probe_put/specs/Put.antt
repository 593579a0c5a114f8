-- S-91: a record of a store of places gets a place: every other byte stays. Assumes nothing.
use Rattle.std.specs.Prelude.{◌≡◌, refl, List, [], ◌∷◌, ℕ, ◌+◌, ◌*◌, ◌/◌, ◌%◌, eqb, ltb, length}
use Rattle.std.proofs.lemmas.List.Edits.{sets}
use Rattle.laws.specs.Pick.{pick}
use Rattle.bcn_spec.specs.Answers.{done, no_record, bad_place}
use Rattle.probe_places.specs.declared.Fault.{Fault}
use Rattle.probe_places.specs.declared.Place.{Place}
use Rattle.probe_places.specs.Faults.{fault_alone, whole_first}
use Rattle.probe_places.specs.Places.{place_size, place_limit, places_in, place_refusal, place_record_refusal}
use Rattle.probe_moves.specs.declared.Moved.{Moved}
use Rattle.probe_moves.specs.Moves.{size_refusal, MovedTo}

-- ---- the bytes

-- S-53, S-91: face, column and row, each number low byte first.
abbrev pub place_bytes : Place → List ℕ
place_bytes p = p.face ∷ p.column % 256 ∷ p.column / 256 % 256 ∷ p.row % 256 ∷ p.row / 256 % 256 ∷ []

-- S-91: the store with the place of record n set: bytes 5 to 9 of the record.
unfoldable pub put_store : List ℕ → ℕ → Place → List ℕ
put_store store n p = sets store (n * place_size + 5) (place_bytes p)

-- ---- the checks, in the order 5, 6, 3, 8, 1, 7, 17

-- S-91: 5, 6 and 3 come before any record, as for the moves.
abbrev pub put_sizes : ℕ → ℕ → ℕ
put_sizes size room = size_refusal place_limit place_size place_size size room

-- 1 and 7 of record n. The place that the record has does not matter, so a record with a bad one gets a good one.
unfoldable pub own_refusal : List ℕ → ℕ → ℕ
own_refusal store n = pick (eqb (place_record_refusal store n) bad_place) done (place_record_refusal store n)

-- 17 is of the place that is given. A record is named only where its own bytes are why: 1 and 7.
unfoldable pub record_fault : List ℕ → ℕ → Place → Fault
record_fault store n p =
    pick (ltb n (places_in store))
    (pick (eqb (own_refusal store n) done) (fault_alone (place_refusal p)) (record { answer = own_refusal store n; faulty = n }))
    (fault_alone no_record)

unfoldable pub putting_fault : List ℕ → ℕ → Place → ℕ → Fault
putting_fault store n p room = whole_first (put_sizes (length store) room) (record_fault store n p)

-- ---- the call

-- The statement of `put_place`: all or nothing, as of the moves.
abbrev pub PlacePut : (store : List ℕ) (n : ℕ) (p : Place) (lent : List ℕ) (r : Moved) (after : List ℕ) → Type 0
PlacePut store n p lent r after = MovedTo (putting_fault store n p (length lent)) (places_in store) (put_store store n p) lent r after

-- ---- examples

-- face 5, column 0x102, row 3
bytes_are : place_bytes (record { face = 5; column = 0x102; row = 3 }) ≡ 5 ∷ 2 ∷ 1 ∷ 3 ∷ 0 ∷ []
bytes_are = refl

-- face 6 is none; 255 is of a record that is not placed, which has no position
no_face : place_refusal (record { face = 6; column = 0; row = 0 }) ≡ bad_place
unfolding place_refusal
no_face = refl

taken_off : place_refusal (record { face = 255; column = 0; row = 0 }) ≡ done
unfolding place_refusal
taken_off = refl

off_with_a_row : place_refusal (record { face = 255; column = 0; row = 1 }) ≡ bad_place
unfolding place_refusal
off_with_a_row = refl

-- an empty store has no record 0: 8 comes before 17
record_before_place : putting_fault [] 0 (record { face = 6; column = 0; row = 0 }) 0 ≡ fault_alone no_record
unfolding putting_fault record_fault size_refusal
record_before_place = refl
