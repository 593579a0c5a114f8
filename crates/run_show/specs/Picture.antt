-- S-74: a field record in 64 bytes, and the 97 bytes that are written for it. Assumes nothing.
use Rattle.std.specs.Prelude.{List, ℕ, ◌-◌, ◌*◌, ◌/◌, eqb, length, get_or, replicate}
use Rattle.laws.specs.Pick.{pick}
use Rattle.laws.specs.Made.{made}
use Rattle.raw_bytes.specs.Bytes.{low_first, low_or_high}
use Rattle.bc6h_spec.specs.declared.Fields.{Fields}
use Rattle.bc6h_spec.specs.Fields.{no_fields}
use Rattle.bc6h_spec.specs.Picture.{value_count}
use Rattle.bc6_numbers.specs.Numbers.{number_count, fields_from}
use Rattle.bc6_palette.specs.Call.{refusal_of, values_at}

-- 32 numbers of two bytes; the answer, and 48 values of two bytes
abbrev pub input_size : ℕ
input_size = 64

abbrev pub output_size : ℕ
output_size = 97

-- number k, low byte first
unfoldable pub number_in : List ℕ → ℕ → ℕ
number_in input k = low_first input (2 * k) 2

-- the record; input of another length holds none
unfoldable pub fields_in : List ℕ → Fields
fields_in input = pick (eqb (length input) input_size) (fields_from (made (number_in input) number_count)) no_fields

-- the answer, and then each value, low byte first
unfoldable pub picture_byte : ℕ → List ℕ → ℕ → ℕ
picture_byte answer values k = pick (eqb k 0) answer (low_or_high (get_or values ((k - 1) / 2) 0) (k - 1))

-- what the call answers, and leaves in 48 zeros
unfoldable pub picture_bytes : List ℕ → List ℕ
picture_bytes input =
    let f = fields_in input in
    made (picture_byte (refusal_of f value_count) (values_at (refusal_of f value_count) f (replicate value_count 0))) output_size
