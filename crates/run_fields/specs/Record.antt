-- S-74: the 45 bytes that are written for a block. Assumes nothing.
use Rattle.std.specs.Prelude.{List, ℕ, ◌-◌, ◌/◌, eqb, ltb, length, get_or, drop}
use Rattle.laws.specs.Pick.{pick}
use Rattle.laws.specs.Made.{made}
use Rattle.raw_bytes.specs.Bytes.{low_or_high}
use Rattle.bc6h_spec.specs.Fields.{mode_of}
use Rattle.bc6_fields.specs.Call.{FieldsRead, refusal_of, answer_at}

-- answer, format, mode, twelve endpoints (two bytes each, low byte first), partition, region count, sixteen indices: byte k
unfoldable pub fields_byte : FieldsRead → ℕ → ℕ
fields_byte r k =
    pick (eqb k 0) r.answer
    (pick (eqb k 1) r.fields.format
    (pick (eqb k 2) r.fields.mode
    (pick (ltb k 27) (low_or_high (get_or r.fields.endpoints ((k - 3) / 2) 0) (k - 3))
    (pick (eqb k 27) r.fields.partition
    (pick (eqb k 28) r.fields.region1 (get_or r.fields.indices (k - 29) 0))))))

-- the format, and the block bytes that are there
abbrev pub piece_format : List ℕ → ℕ
piece_format piece = get_or piece 0 0

abbrev pub piece_block : List ℕ → List ℕ
piece_block piece = drop 1 piece

-- what the field call answers of a piece
abbrev pub piece_fields : List ℕ → FieldsRead
piece_fields piece =
    answer_at (refusal_of (piece_format piece) (length (piece_block piece)) (mode_of (piece_block piece))) (piece_format piece) (piece_block piece)

unfoldable pub record_bytes : List ℕ → List ℕ
record_bytes piece = made (fields_byte (piece_fields piece)) 45
