-- S-87: a field record as a run of numbers, and back. Assumes nothing.
use Rattle.std.specs.Prelude.{List, ℕ, ◌+◌, ◌-◌, eqb, ltb, length, get_or}
use Rattle.laws.specs.Pick.{pick}
use Rattle.laws.specs.Made.{made}
use Rattle.bc6h_spec.specs.declared.Fields.{Fields}
use Rattle.bc6h_spec.specs.Fields.{no_fields}

-- format, mode, twelve endpoint values, partition, pixels in region 1, sixteen indices
abbrev pub number_count : ℕ
number_count = 32

unfoldable pub number_at : Fields → ℕ → ℕ
number_at f k =
    pick (ltb k 1) f.format
    (pick (ltb k 2) f.mode
    (pick (ltb k 14) (get_or f.endpoints (k - 2) 0)
    (pick (ltb k 15) f.partition
    (pick (ltb k 16) f.region1
    (get_or f.indices (k - 16) 0)))))

unfoldable pub numbers_of : Fields → List ℕ
numbers_of f = made (number_at f) number_count

-- a number that one byte holds; 255, which no valid record has, stands for what it cannot hold
unfoldable pub byte_from : ℕ → ℕ
byte_from number = pick (ltb number 255) number 255

unfoldable pub endpoint_from : List ℕ → ℕ → ℕ
endpoint_from numbers k = get_or numbers (k + 2) 0

unfoldable pub index_from : List ℕ → ℕ → ℕ
index_from numbers k = byte_from (get_or numbers (k + 16) 0)

-- the record that the numbers hold; another count of numbers holds none
unfoldable pub fields_from : List ℕ → Fields
fields_from numbers =
    pick (eqb (length numbers) number_count)
    (record {
      format = byte_from (get_or numbers 0 0);
      mode = byte_from (get_or numbers 1 0);
      endpoints = made (endpoint_from numbers) 12;
      partition = byte_from (get_or numbers 14 0);
      region1 = byte_from (get_or numbers 15 0);
      indices = made (index_from numbers) 16;
    })
    no_fields
