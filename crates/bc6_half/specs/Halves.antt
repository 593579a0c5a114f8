-- S-22 to S-26: weights; a number of 16 bits; a pattern, and whether it is minus infinity. Assumes nothing.
use Rattle.std.specs.Prelude.{Bool, false, List, ℕ, eqb, ℤ, pos, replicate}
use Rattle.laws.specs.Pick.{pick}
use Rattle.bcn_spec.specs.Weights.{weights8, weights16}
use Rattle.bc6h_spec.specs.Half.{sign_extend, minus_infinity, finished, is_lowest}
use Rattle.bc6_half.specs.declared.Half.{Half}

-- S-22: of an index of three bits, and of four
abbrev pub weights_of : ℕ → List ℕ
weights_of bits = pick (eqb bits 3) weights8 weights16

-- S-17: the number that 16 bits stand for: in signed format in two's complement
unfoldable pub signed_number : Bool → ℕ → ℤ
signed_number signed u = pick signed (sign_extend 16 u) (pos u)

-- S-26: the pattern of a number, and whether the number was −32768.
unfoldable pub half_of : Bool → ℤ → Half
half_of signed x = record { pattern = finished signed x; infinite = is_lowest signed x }

-- a value, and whether it is 0xFC00
unfoldable pub marked : ℕ → Half
marked value = record { pattern = value; infinite = eqb value minus_infinity }

-- S-8: a triple of a reserved block.
abbrev pub black : List Half
black = replicate 3 (record { pattern = 0; infinite = false })
