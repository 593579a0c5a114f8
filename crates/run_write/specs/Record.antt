-- S-74: a field record in 44 bytes, and the 17 bytes that are written for it. Assumes nothing.
use Rattle.std.specs.Prelude.{List, ℕ, ◌+◌, ◌-◌, ◌*◌, eqb, ltb, length, get_or, replicate}
use Rattle.laws.specs.Pick.{pick}
use Rattle.laws.specs.Made.{made}
use Rattle.raw_bytes.specs.Bytes.{low_first}
use Rattle.bc6h_spec.specs.declared.Fields.{Fields}
use Rattle.bc6h_spec.specs.Fields.{no_fields}
use Rattle.bc6_numbers.specs.Numbers.{number_count, fields_from}
use Rattle.bc6_writer.specs.Call.{refusal_of, bytes_at}

-- format, mode, twelve endpoints (two bytes each, low byte first), partition, region count, sixteen indices: number k
unfoldable pub number_in : List ℕ → ℕ → ℕ
number_in piece k =
    pick (ltb k 2) (get_or piece k 0)
    (pick (ltb k 14) (low_first piece (2 * k - 2) 2)
    (get_or piece (k + 12) 0))

-- the record; a piece of another length holds none
unfoldable pub fields_in : List ℕ → Fields
fields_in piece = pick (eqb (length piece) 44) (fields_from (made (number_in piece) number_count)) no_fields

-- the answer, and then the block
unfoldable pub answer_byte : ℕ → List ℕ → ℕ → ℕ
answer_byte answer block k = pick (eqb k 0) answer (get_or block (k - 1) 0)

-- what the writer answers, and leaves in sixteen zeros
unfoldable pub record_bytes : List ℕ → List ℕ
record_bytes piece = made (answer_byte (refusal_of (fields_in piece) 16) (bytes_at (refusal_of (fields_in piece) 16) (fields_in piece) (replicate 16 0))) 17
