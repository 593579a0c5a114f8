-- S-39 to S-41: a store is a list of bytes, a record every 24 of them. What the record call and the block call answer. Assumes nothing.
use Rattle.std.specs.Prelude.{◌≡◌, Bool, not, List, [], ◌∷◌, ℕ, zero, suc, ◌+◌, ◌*◌, ◌/◌, ◌%◌, eqb, ltb, length, get_or, take, drop, Result, Ok, Err}
use Rattle.laws.specs.Pick.{pick, both}
use Rattle.laws.specs.Checks.{first_met}
use Rattle.bcn_spec.specs.Answers.{done, bad_format, long_store, uneven_store, spare_byte, no_record}
use Rattle.bcn_spec.specs.Bits.{block_size}
use Rattle.raw_bytes.specs.Bytes.{low_first}
use Rattle.bcn_spec.specs.Refusals.{answer_of}
use Rattle.bcn_spec.specs.declared.Refusal.{Refusal}
use Rattle.store_records.specs.declared.Record.{Record}

-- S-39: a record has 24 bytes: tile number (0 to 3, low byte first), format (4), zeros (5 to 7), block (8 to 23). A store has no header.
abbrev pub record_size : ℕ
record_size = 24

abbrev pub head_size : ℕ
head_size = 8

-- S-39: a store has at most 2,000 records.
abbrev pub store_limit : ℕ
store_limit = 48000

-- the most records of a store, with or without a place
abbrev pub most_records : ℕ
most_records = 2000

abbrev pub records_in : List ℕ → ℕ
records_in store = length store / record_size

-- byte k of record n
abbrev pub byte_of : List ℕ → ℕ → ℕ → ℕ
byte_of store n k = get_or store (n * record_size + k) 0

unfoldable pub tile_of : List ℕ → ℕ → ℕ
tile_of store n = low_first store (n * record_size) 4

abbrev pub format_of : List ℕ → ℕ → ℕ
format_of store n = byte_of store n 4

abbrev pub spare_zero : List ℕ → ℕ → Bool
spare_zero store n = both (eqb (byte_of store n 5) 0) (both (eqb (byte_of store n 6) 0) (eqb (byte_of store n 7) 0))

-- S-41: the block of record n is bytes 24 n + 8 to 24 n + 23.
unfoldable pub block_of : List ℕ → ℕ → List ℕ
block_of store n = take block_size (drop (n * record_size + head_size) store)

-- S-82: the tile number of record n, refused or not; 0 where there is no such record.
unfoldable pub tile_at : List ℕ → ℕ → ℕ
tile_at store n = pick (ltb n (records_in store)) (tile_of store n) 0

-- S-40: 5, 6, 8, 1, 7: the first check that is met.
abbrev pub record_checks : List ℕ → ℕ → List (Bool × ℕ)
record_checks store n =
    (ltb store_limit (length store), long_store) ∷
    (not (eqb (length store % record_size) 0), uneven_store) ∷
    (not (ltb n (records_in store)), no_record) ∷
    (ltb 1 (format_of store n), bad_format) ∷
    (not (spare_zero store n), spare_byte) ∷ []

unfoldable pub record_refusal : List ℕ → ℕ → ℕ
record_refusal store n = first_met (record_checks store n)

-- the record call does not refuse n
abbrev pub Unrefused : List ℕ → ℕ → Type 0
Unrefused store n = record_refusal store n ≡ done

-- The values that each case of a reading stands for.
abbrev pub values_of : Result Record Refusal → List ℕ
values_of (Ok r) = r.tile ∷ r.format ∷ []
values_of (Err refusal) = []

abbrev pub values_at : ℕ → List ℕ → ℕ → List ℕ
values_at zero store n = tile_of store n ∷ format_of store n ∷ []
values_at (suc number) store n = []

-- S-40: tile number and format, or the number of the refusal alone.
pub record RecordRead (store : List ℕ) (n : ℕ) (r : Result Record Refusal) : Type 0 where
  pub answers : answer_of r ≡ record_refusal store n
  pub gives : values_of r ≡ values_at (record_refusal store n) store n

-- S-41: the record's sixteen block bytes as a part of the store, empty exactly when `record_at` refuses.
abbrev pub part_at : ℕ → List ℕ → ℕ → List ℕ
part_at zero store n = block_of store n
part_at (suc number) store n = []
