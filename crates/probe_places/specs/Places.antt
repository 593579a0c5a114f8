-- S-53: a store of records with a place, 32 bytes each. Assumes nothing.
use Rattle.std.specs.Prelude.{◌≡◌, Bool, not, List, [], ◌∷◌, ℕ, ◌+◌, ◌*◌, ◌/◌, ◌<◌, eqb, ltb, length, get_or, take, drop}
use Rattle.laws.specs.Pick.{both, either}
use Rattle.laws.specs.Checks.{first_met}
use Rattle.laws.specs.Every.{below}
use Rattle.bcn_spec.specs.Answers.{bad_format, spare_byte, bad_place}
use Rattle.bcn_spec.specs.Bits.{block_size}
use Rattle.raw_bytes.specs.Bytes.{low_first}
use Rattle.probe_places.specs.declared.Place.{Place}

-- S-53: a record has 32 bytes: tile number (4), format (1), face (1), column (2), row (2), six zeros, block (16). A store has no header.
abbrev pub place_size : ℕ
place_size = 32

abbrev pub place_head : ℕ
place_head = 16

-- S-30: a store has at most 2,000 records, 64,000 bytes.
abbrev pub place_limit : ℕ
place_limit = 64000

abbrev pub most_places : ℕ
most_places = 2000

-- S-53: a face is 0 to 5, or 255 for a record that is not placed.
abbrev pub face_count : ℕ
face_count = 6

abbrev pub no_face : ℕ
no_face = 255

abbrev pub places_in : List ℕ → ℕ
places_in store = length store / place_size

-- byte k of record n
abbrev pub byte_at : List ℕ → ℕ → ℕ → ℕ
byte_at store n k = get_or store (n * place_size + k) 0

-- two bytes of record n, low byte first
abbrev pub pair_at : List ℕ → ℕ → ℕ → ℕ
pair_at store n k = byte_at store n k + byte_at store n (k + 1) * 0x100

unfoldable pub tile_in : List ℕ → ℕ → ℕ
tile_in store n = low_first store (n * place_size) 4

abbrev pub format_in : List ℕ → ℕ → ℕ
format_in store n = byte_at store n 4

abbrev pub face_in : List ℕ → ℕ → ℕ
face_in store n = byte_at store n 5

abbrev pub column_in : List ℕ → ℕ → ℕ
column_in store n = pair_at store n 6

abbrev pub row_in : List ℕ → ℕ → ℕ
row_in store n = pair_at store n 8

abbrev pub place_in : List ℕ → ℕ → Place
place_in store n = record { face = face_in store n; column = column_in store n; row = row_in store n }

-- S-53: the six zero bytes.
unfoldable pub zero_byte : List ℕ → ℕ → ℕ → Bool
zero_byte store n k = eqb (byte_at store n (10 + k)) 0

unfoldable pub rest_zero : List ℕ → ℕ → Bool
rest_zero store n = below (zero_byte store n) 6

unfoldable pub block_in : List ℕ → ℕ → List ℕ
block_in store n = take block_size (drop (n * place_size + place_head) store)

-- ---- placed or not

-- S-53: a record is placed when its face is 0 to 5.
abbrev pub IsPlaced : List ℕ → ℕ → Type 0
IsPlaced store n = face_in store n < face_count

-- S-53: a record that is not placed has face 255, column 0 and row 0.
pub record IsUnplaced (store : List ℕ) (n : ℕ) : Type 0 where
  pub no_face : face_in store n ≡ no_face
  pub no_column : column_in store n ≡ 0
  pub no_row : row_in store n ≡ 0

-- S-53: the same by computing.
abbrev pub placed : Place → Bool
placed p = ltb p.face face_count

abbrev pub unplaced : Place → Bool
unplaced p = both (eqb p.face no_face) (both (eqb p.column 0) (eqb p.row 0))

-- S-54: 17 for a bad face, or for a record without a place that has a column or a row.
abbrev pub place_checks : Place → List (Bool × ℕ)
place_checks p = (not (either (placed p) (unplaced p)), bad_place) ∷ []

unfoldable pub place_refusal : Place → ℕ
place_refusal p = first_met (place_checks p)

-- S-54: 1, 7, 17: of record n, whatever the store's size.
abbrev pub place_record_checks : List ℕ → ℕ → List (Bool × ℕ)
place_record_checks store n = (ltb 1 (format_in store n), bad_format) ∷ (not (rest_zero store n), spare_byte) ∷ place_checks (place_in store n)

unfoldable pub place_record_refusal : List ℕ → ℕ → ℕ
place_record_refusal store n = first_met (place_record_checks store n)
