-- S-54, S-55, S-57 to S-59, S-87, S-91, S-93: what the exports over records with a place and over a probe answer: the calls' own answers, packed into one word
-- and slots. Assumes nothing.
use Rattle.std.specs.Prelude.{◌≡◌, List, ℕ, zero, suc, ◌+◌, ◌*◌, length}
use Rattle.laws.specs.Checks.{left_by}
use Rattle.probe_places.specs.Places.{place_size, place_head, places_in, tile_in, format_in, face_in, column_in, row_in}
use Rattle.probe_places.specs.Readings.{placed_refusal}
use Rattle.store_records.specs.Store.{records_in}
use Rattle.probe_moves.specs.declared.Moved.{Moved}
use Rattle.probe_moves.specs.Moves.{placed_store, old_store, placing_fault, unplacing_fault, placing_refusal, unplacing_refusal, moved_at}
use Rattle.probe_put.specs.Put.{put_store, putting_fault}
use Rattle.probe_places.specs.declared.Fault.{Fault}
use Rattle.probe_places.specs.declared.Place.{Place}
use Rattle.probe.specs.declared.ProbePixel.{ProbePixel}
use Rattle.probe.specs.Probe.{probe_answer}
use Rattle.probe_faces.specs.Face.{face_of, face_fault}
use Rattle.probe_open.specs.Open.{open_fault, Opened}

-- S-54, S-87: a record: 0 in the low byte, the format in the next, the face in bits 16 to 23, the tile in the high half; a refusal: its number alone
abbrev pub placed_word : ℕ → List ℕ → ℕ → ℕ
placed_word zero store n = format_in store n * 0x100 + face_in store n * 0x10000 + tile_in store n * 0x100000000
placed_word (suc number) store n = suc number

-- what a slot then is: 0 on a refusal
abbrev pub slot_value : ℕ → ℕ → ℕ
slot_value zero value = value
slot_value (suc number) value = 0

-- S-54, S-87: the record call: its answer in one word, and the column and the row in the slots.
pub record PlacedReadingCalled (store : List ℕ) (n r column row : ℕ) : Type 0 where
  pub answers : r ≡ placed_word (placed_refusal store n) store n
  pub column_told : column ≡ slot_value (placed_refusal store n) (column_in store n)
  pub row_told : row ≡ slot_value (placed_refusal store n) (row_in store n)

-- S-54, S-87: where in the store a record's block starts; 0 for a refusal
abbrev pub placed_offset : ℕ → ℕ → ℕ
placed_offset zero n = n * place_size + place_head
placed_offset (suc number) n = 0

-- S-55, S-87: the number in the low byte, the records moved in bits 16 to 31, the first faulty record in bits 32 to 47
abbrev pub moved_word : Moved → ℕ
moved_word moved = moved.answer + moved.records * 0x10000 + moved.faulty * 0x100000000

-- The moves: the answer in one word, and the lent bytes as the call leaves them.
pub record PlaceCalled (old lent : List ℕ) (r : ℕ) (after : List ℕ) : Type 0 where
  pub answers : r ≡ moved_word (moved_at (placing_refusal old (length lent)) (placing_fault old (length lent)).faulty (records_in old))
  pub holds : after ≡ left_by (placing_refusal old (length lent)) (placed_store old) lent

pub record UnplaceCalled (new lent : List ℕ) (r : ℕ) (after : List ℕ) : Type 0 where
  pub answers : r ≡ moved_word (moved_at (unplacing_refusal new (length lent)) (unplacing_fault new (length lent)).faulty (places_in new))
  pub holds : after ≡ left_by (unplacing_refusal new (length lent)) (old_store new) lent

-- S-91, S-87: a record gets a place: the answer in one word, as of a move, and the lent bytes as the call leaves them.
pub record PutCalled (store : List ℕ) (n : ℕ) (p : Place) (lent : List ℕ) (r : ℕ) (after : List ℕ) : Type 0 where
  pub answers : r ≡ moved_word (moved_at (putting_fault store n p (length lent)).answer (putting_fault store n p (length lent)).faulty (places_in store))
  pub holds : after ≡ left_by (putting_fault store n p (length lent)).answer (put_store store n p) lent

-- S-57, S-87: the number in the low byte; red, green and blue in the three sixteen-bit fields above the lowest
abbrev pub pixel_word : ProbePixel → ℕ
pixel_word p = p.answer + p.r * 0x10000 + p.g * 0x100000000 + p.b * 0x1000000000000

-- S-57, S-87: the pixel call: its answer in one word, and in the slot the first faulty record, where one is why.
pub record PixelCalled (store : List ℕ) (edge face x y r faulty : ℕ) : Type 0 where
  pub answers : r ≡ pixel_word (probe_answer store edge face x y)
  pub faulty_told : faulty ≡ (probe_answer store edge face x y).faulty

-- S-58, S-87: the number in the low byte; in bits 16 to 31 the faulty record
abbrev pub fault_word : Fault → ℕ
fault_word fault = fault.answer + fault.faulty * 0x10000

-- The face call: its number alone, and the lent values as the call leaves them.
pub record FaceCalled (store : List ℕ) (edge face : ℕ) (lent : List ℕ) (r : ℕ) (after : List ℕ) : Type 0 where
  pub answers : r ≡ (face_fault store edge face (length lent)).answer
  pub holds : after ≡ left_by (face_fault store edge face (length lent)).answer (face_of store edge face) lent

-- S-93, S-87: a probe is opened: its answer in one word, as of the check, and the lent table as the call leaves it.
pub record OpenCalled (store : List ℕ) (edge : ℕ) (lent : List ℕ) (r : ℕ) (after : List ℕ) : Type 0 where
  pub answers : r ≡ fault_word (open_fault store edge (length lent))
  pub leaves : Opened store edge lent (open_fault store edge (length lent)) after
