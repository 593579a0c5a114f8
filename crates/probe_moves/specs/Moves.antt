-- S-55: the moves between old stores and stores of places. Assumes nothing.
use Rattle.std.specs.Prelude.{◌≡◌, Bool, not, List, [], ◌∷◌, ℕ, zero, suc, ◌+◌, ◌-◌, ◌*◌, ◌/◌, ◌%◌, eqb, ltb, length}
use Rattle.laws.specs.Pick.{pick}
use Rattle.laws.specs.Checks.{first_met, left_by, or_next}
use Rattle.laws.specs.Made.{made}
use Rattle.bcn_spec.specs.Answers.{done, short_output, long_store, uneven_store, placed_record}
use Rattle.store_records.specs.Store.{record_size, head_size, store_limit, records_in, byte_of, record_refusal}
use Rattle.probe_places.specs.declared.Fault.{Fault}
use Rattle.probe_places.specs.Faults.{first_fault, whole_first}
use Rattle.probe_places.specs.Places.{place_size, place_head, place_limit, no_face, places_in, byte_at, place_in, placed, place_record_refusal}
use Rattle.probe_moves.specs.declared.Moved.{Moved}

-- ---- the bytes

-- S-55: an old record becomes one that is not placed: byte k of what record n becomes.
unfoldable pub placed_byte : List ℕ → ℕ → ℕ → ℕ
placed_byte old n k = pick (ltb k 5) (byte_of old n k) (pick (eqb k 5) no_face (pick (ltb k place_head) 0 (byte_of old n (k - 8))))

abbrev pub placed_at : List ℕ → ℕ → ℕ
placed_at old j = placed_byte old (j / place_size) (j % place_size)

unfoldable pub placed_store : List ℕ → List ℕ
placed_store old = made (placed_at old) (records_in old * place_size)

-- S-55: the way back: byte k of what record n becomes.
unfoldable pub old_byte : List ℕ → ℕ → ℕ → ℕ
old_byte new n k = pick (ltb k 5) (byte_at new n k) (pick (ltb k head_size) 0 (byte_at new n (k + 8)))

abbrev pub old_at : List ℕ → ℕ → ℕ
old_at new j = old_byte new (j / record_size) (j % record_size)

unfoldable pub old_store : List ℕ → List ℕ
old_store new = made (old_at new) (places_in new * record_size)

-- ---- the checks

-- S-55: 5, 6 and 3 come before any record: of a store's size and the room, where a record has `from` bytes and the moved one `to`.
abbrev pub size_checks : ℕ → ℕ → ℕ → ℕ → ℕ → List (Bool × ℕ)
size_checks limit from to size room =
    (ltb limit size, long_store) ∷ (not (eqb (size % from) 0), uneven_store) ∷ (ltb room (size / from * to), short_output) ∷ []

unfoldable pub size_refusal : ℕ → ℕ → ℕ → ℕ → ℕ → ℕ
size_refusal limit from to size room = first_met (size_checks limit from to size room)

abbrev pub place_sizes : ℕ → ℕ → ℕ
place_sizes size room = size_refusal store_limit record_size place_size size room

abbrev pub unplace_sizes : ℕ → ℕ → ℕ
unplace_sizes size room = size_refusal place_limit place_size record_size size room

-- S-55: 1, 7, 17, 18: a placed record does not move back.
unfoldable pub back_refusal : List ℕ → ℕ → ℕ
back_refusal new n = or_next (place_record_refusal new n) (pick (placed (place_in new n)) placed_record done)

-- S-55: the first faulty record: the refusal's number, and the record that is why; 0 where none is.
unfoldable pub placing_fault : List ℕ → ℕ → Fault
placing_fault old room = whole_first (place_sizes (length old) room) (first_fault (record_refusal old) (records_in old))

unfoldable pub unplacing_fault : List ℕ → ℕ → Fault
unplacing_fault new room = whole_first (unplace_sizes (length new) room) (first_fault (back_refusal new) (places_in new))

abbrev pub placing_refusal : List ℕ → ℕ → ℕ
placing_refusal old room = (placing_fault old room).answer

abbrev pub unplacing_refusal : List ℕ → ℕ → ℕ
unplacing_refusal new room = (unplacing_fault new room).answer

-- ---- the calls

-- The number, how many records were moved, none on a refusal, and the first faulty record where one is why.
abbrev pub moved_at : ℕ → ℕ → ℕ → Moved
moved_at zero faulty count = record { answer = done; records = count; faulty = 0 }
moved_at (suc number) faulty count = record { answer = suc number; records = 0; faulty = faulty }

-- S-30, S-55: a move is all or nothing: its answer r, and the lent bytes `after`.
pub record MovedTo (fault : Fault) (count : ℕ) (moved lent : List ℕ) (r : Moved) (after : List ℕ) : Type 0 where
  pub answers : r ≡ moved_at fault.answer fault.faulty count
  pub holds : after ≡ left_by fault.answer moved lent

-- S-55: the statements of the two calls.
abbrev pub PlacedStore : (old lent : List ℕ) (r : Moved) (after : List ℕ) → Type 0
PlacedStore old lent r after = MovedTo (placing_fault old (length lent)) (records_in old) (placed_store old) lent r after

abbrev pub UnplacedStore : (new lent : List ℕ) (r : Moved) (after : List ℕ) → Type 0
UnplacedStore new lent r after = MovedTo (unplacing_fault new (length lent)) (places_in new) (old_store new) lent r after
