-- S-13, S-14: indexes at full width in one word. Assumes nothing.
use Rattle.std.specs.Prelude.{List, [], ◌∷◌, ℕ, ◌+◌, ◌-◌, ◌*◌, ◌/◌, ◌%◌, ◌^◌, ◌≤◌, ◌<◌, length, get_or}
use Rattle.laws.specs.Packed.{opened}
use Rattle.bcn_util.specs.declared.Indexes.{Indexes}

-- at least one fix-up pixel, and at most one for each pixel
pub record FixupsFit (fixups : List ℕ) : Type 0 where
  pub some : 1 ≤ length fixups
  pub few : length fixups ≤ 16
  pub inside : (k : ℕ) → k < length fixups → get_or fixups k 0 ≤ 15

-- how many bits sixteen indexes take as stored
abbrev pub stored_count : ℕ → List ℕ → ℕ
stored_count bits fixups = 16 * bits - length fixups

-- S-13: the zero top bits put in, at one fix-up pixel after the other.
abbrev pub expanded : ℕ → List ℕ → ℕ → ℕ
expanded bits [] n = n
expanded bits (pixel ∷ pixels) n = expanded bits pixels (opened (bits * pixel + (bits - 1)) n)

-- the indexes that the lowest bits of n make
abbrev pub indexes_of : ℕ → List ℕ → ℕ → Indexes
indexes_of bits fixups n = record { uncompressed = expanded bits fixups (n % 2 ^ stored_count bits fixups); bits = bits }

-- the index of a pixel
abbrev pub index_at : Indexes → ℕ → ℕ
index_at indexes pixel = indexes.uncompressed / 2 ^ (indexes.bits * pixel) % 2 ^ indexes.bits
