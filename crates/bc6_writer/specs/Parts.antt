-- S-36: what the writer works with. Assumes nothing.
use Rattle.std.specs.Prelude.{List, ℕ, ◌*◌, ◌/◌, ◌%◌, ◌^◌, ◌<◌, length, get_or}
use Rattle.bc6h_spec.specs.declared.Fields.{Fields}
use Rattle.bcn_spec.specs.Indices.{stored_bits}
use Rattle.bc6h_spec.specs.Fields.{index_bits, fixups}

-- every code names one of the fourteen places
abbrev pub InPlaces : List ℕ → Type 0
InPlaces codes = (k : ℕ) → k < length codes → get_or codes k 0 / 16 < 14

-- how many bits of each index are stored
abbrev pub stored_size : Fields → ℕ → ℕ
stored_size f = stored_bits (index_bits f.mode) (fixups f.mode f.partition)

-- byte k of a number, little end first
unfoldable pub number_byte : ℕ → ℕ → ℕ
number_byte n k = n / 2 ^ (8 * k) % 256
