-- S-12: the rows of two regions: which pixel lies in which, and the fix-up pixel of region 1. Assumes nothing.
use Rattle.std.specs.Prelude.{Bool, List, [], ◌∷◌, map, ℕ, suc, ◌-◌, eqb, get_or, take}
use Prim.Native.Char.{Char, code}
use Prim.Native.String.{String}
use Prim.Native.String as Text
use Rattle.laws.specs.Pick.{pick}
use Rattle.laws.specs.Bit.{of_bits}

-- S-12, S-68: two regions, row by row. A digit is a pixel's region; a dash is before the fix-up pixel of region 1.
abbrev pub partition_set_2 : List String
partition_set_2 =
    "001100110011001-1" ∷
    "000100010001000-1" ∷
    "011101110111011-1" ∷
    "000100110011011-1" ∷
    "000000010001001-1" ∷
    "001101110111111-1" ∷
    "000100110111111-1" ∷
    "000000010011011-1" ∷
    "000000000001001-1" ∷
    "001101111111111-1" ∷
    "000000010111111-1" ∷
    "000000000001011-1" ∷
    "000101111111111-1" ∷
    "000000001111111-1" ∷
    "000011111111111-1" ∷
    "000000000000111-1" ∷
    "000010001110111-1" ∷
    "01-11000100000000" ∷
    "00000000-10001110" ∷
    "01-11001100010000" ∷
    "00-11000100000000" ∷
    "00001000-11001110" ∷
    "00000000-10001100" ∷
    "011100110011000-1" ∷
    "00-11000100010000" ∷
    "00001000-10001100" ∷
    "01-10011001100110" ∷
    "00-11011001101100" ∷
    "00010111-11101000" ∷
    "00001111-11110000" ∷
    "01-11000110001110" ∷
    "00-11100110011100" ∷
    "010101010101010-1" ∷
    "000011110000111-1" ∷
    "010110-1001011010" ∷
    "00110011-11001100" ∷
    "00-11110000111100" ∷
    "01010101-10101010" ∷
    "011010010110100-1" ∷
    "010110101010010-1" ∷
    "01-11001111001110" ∷
    "00010011-11001000" ∷
    "00-11001001001100" ∷
    "00-11101111011100" ∷
    "01-10100110010110" ∷
    "001111001100001-1" ∷
    "011001101001100-1" ∷
    "000001-1001100000" ∷
    "010011-1001000000" ∷
    "00-10011100100000" ∷
    "000000-1001110010" ∷
    "00000100-11100100" ∷
    "011011001001001-1" ∷
    "001101101100100-1" ∷
    "01-10001110011100" ∷
    "00-11100111000110" ∷
    "011011001100100-1" ∷
    "011000110011100-1" ∷
    "011111101000000-1" ∷
    "000110001110011-1" ∷
    "000011110011001-1" ∷
    "00-11001111110000" ∷
    "00-10001011101110" ∷
    "010001000111011-1" ∷ []

-- S-12: BC6H has the first 32 rows.
unfoldable pub partitions : List String
partitions = take 32 partition_set_2

abbrev pub is_dash : Char → Bool
is_dash c = eqb (code c) (code "-")

abbrev pub digit : Char → ℕ
digit c = code c - code "0"

-- S-12: without the dash, character k is the region of pixel k.
abbrev pub regions_in : String → List ℕ
regions_in Text.[] = []
regions_in (Text.◌∷◌ c cs) = pick (is_dash c) (regions_in cs) (digit c ∷ regions_in cs)

-- S-12: the fix-up pixel of region 1 comes next after the dash.
abbrev pub fixup_in : String → ℕ
fixup_in Text.[] = 0
fixup_in (Text.◌∷◌ c cs) = pick (is_dash c) 0 (suc (fixup_in cs))

-- S-12: bit k of the 16-bit map is pixel k's region.
abbrev pub map_in : String → ℕ
map_in row = of_bits (regions_in row)

-- S-12: the map and the fix-up pixel of a partition number.
abbrev pub map_of : ℕ → ℕ
map_of partition = get_or (map map_in partitions) partition 0

abbrev pub fixup_of : ℕ → ℕ
fixup_of partition = get_or (map fixup_in partitions) partition 0
