-- S-13, S-14: a pixel's index among the bits of a block. Assumes nothing.
use Rattle.std.specs.Prelude.{Bool, false, List, [], ◌∷◌, ℕ, ◌-◌, eqb}
use Rattle.laws.specs.Pick.{pick, either}
use Rattle.laws.specs.Packed.{unpacked}

-- whether a pixel is one of those in a list
abbrev pub has : List ℕ → ℕ → Bool
has [] pixel = false
has (x ∷ xs) pixel = either (eqb pixel x) (has xs pixel)

-- S-13: how many bits of a pixel's index are stored: one fewer for a fix-up pixel.
abbrev pub stored_bits : ℕ → List ℕ → ℕ → ℕ
stored_bits bits fixups pixel = pick (has fixups pixel) (bits - 1) bits

-- S-13, S-14: the index of a pixel, from the number that the index bits make. Pixel 0 comes first; a top bit that is not stored is zero.
abbrev pub index_in : ℕ → List ℕ → ℕ → ℕ → ℕ
index_in bits fixups rest pixel = unpacked (stored_bits bits fixups) rest pixel
