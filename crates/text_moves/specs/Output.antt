-- S-74: what the programs run_place, run_unplace and run_put write of what they read: the answer, a byte, and then the moved store; of a refused
-- store the answer is all. Assumes nothing.
use Rattle.std.specs.Prelude.{List, [], ◌∷◌, ℕ, zero, suc, ◌+◌, ltb, length, get_or, drop}
use Rattle.laws.specs.Pick.{pick}
use Rattle.raw_bytes.specs.Bytes.{low_first}
use Rattle.bcn_spec.specs.Answers.{done}
use Rattle.store_records.specs.Store.{store_limit}
use Rattle.probe_places.specs.declared.Place.{Place}
use Rattle.probe_places.specs.Places.{place_limit}
use Rattle.probe_moves.specs.Moves.{placed_store, old_store, placing_refusal, unplacing_refusal}
use Rattle.probe_put.specs.Put.{put_store, putting_fault}

abbrev pub moved_output : ℕ → List ℕ → List ℕ
moved_output zero moved = done ∷ moved
moved_output (suc number) moved = suc number ∷ []

-- the move is lent room for the largest store that there is
unfoldable pub placed_output : List ℕ → List ℕ
placed_output old = moved_output (placing_refusal old place_limit) (placed_store old)

unfoldable pub unplaced_output : List ℕ → List ℕ
unplaced_output new = moved_output (unplacing_refusal new store_limit) (old_store new)

-- ---- one place

-- S-100: what the program run_put reads: a record's number in four bytes, face in one, column and row in two each, the low byte first; the store.
abbrev pub wish_head : ℕ
wish_head = 9

-- the largest wish whose store is taken
abbrev pub wish_limit : ℕ
wish_limit = wish_head + place_limit

unfoldable pub wished_record : List ℕ → ℕ
wished_record input = low_first input 0 4

unfoldable pub wished_place : List ℕ → Place
wished_place input = record { face = get_or input 4 0; column = low_first input 5 2; row = low_first input 7 2 }

-- S-91, S-100: the answer, and the store with the place of that record set; nothing of a wish that has no store.
unfoldable pub wish_output : List ℕ → List ℕ
wish_output input =
    let store = drop wish_head input in
    pick (ltb (length input) wish_head) []
    (moved_output (putting_fault store (wished_record input) (wished_place input) place_limit).answer (put_store store (wished_record input) (wished_place input)))
