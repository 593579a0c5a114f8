-- S-74: the 100 bytes that are written for a record. Assumes nothing.
use Rattle.std.specs.Prelude.{List, ◌∷◌, ℕ, ◌/◌, ◌%◌, length, get_or, drop, replicate}
use Rattle.laws.specs.Made.{made}
use Rattle.raw_bytes.specs.Bytes.{low_or_high}
use Rattle.bc6.specs.Call.{Pixels}
use Rattle.bc6.specs.Call.{refusal_of, answer_at, values_at}

-- byte k of the values: of value k div 2 the low byte at an even k, the high one at an odd k
unfoldable pub value_byte : List ℕ → ℕ → ℕ
value_byte values k = low_or_high (get_or values (k / 2) 0) k

-- answer, mode, the count of minus infinities and 48 values of two bytes each, low byte first
unfoldable pub shown_bytes : Pixels → List ℕ → List ℕ
shown_bytes shown values = shown.answer ∷ shown.mode ∷ shown.infinite % 256 ∷ shown.infinite / 256 ∷ made (value_byte values) 96

-- the format, and the block bytes that are there
abbrev pub piece_format : List ℕ → ℕ
piece_format piece = get_or piece 0 0

abbrev pub piece_block : List ℕ → List ℕ
piece_block piece = drop 1 piece

-- what the pixels call answers, and leaves in 48 zeros
abbrev pub refusal_in : List ℕ → ℕ
refusal_in piece = refusal_of (piece_format piece) (length (piece_block piece)) 48

unfoldable pub record_bytes : List ℕ → List ℕ
record_bytes piece =
    shown_bytes (answer_at (refusal_in piece) (piece_block piece) (piece_format piece)) (values_at (refusal_in piece) (piece_block piece) (piece_format piece) (replicate 48 0))
