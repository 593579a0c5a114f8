-- S-68: each row's map and fix-up pixels as numbers, as the paper behind S-66 to S-72 printed them, compared with the rows. Assumes nothing.
use mathlib.Core.Bool.{Bool}
use mathlib.Core.List.{List, [], ◌∷◌}
use Prim.Native.Nat.{ℕ, ◌+◌, ◌*◌}
use lib.Dec.{T, eqb}
use lib.ListN.{get_or}
use Rattle.laws.specs.Pick.{both}
use Rattle.laws.specs.Every.{below}
use Rattle.bcn_spec.specs.Regions.{regions_in}
use Rattle.bcn_spec.specs.Rows.{partition_set_3, row_of, fixups_of, row_region}
use Rattle.bcn_spec.proofs.Rows.{row_fixup}

-- digits in a base, the first the lowest
abbrev of_digits : ℕ → List ℕ → ℕ
of_digits base [] = 0
of_digits base (d ∷ ds) = d + base * of_digits base ds

-- S-68: a row of two regions as a 16-bit map, bit k for pixel k
abbrev maps2 : List ℕ
maps2 =
    0xCCCC ∷ 0x8888 ∷ 0xEEEE ∷ 0xECC8 ∷ 0xC880 ∷ 0xFEEC ∷ 0xFEC8 ∷ 0xEC80 ∷ 0xC800 ∷ 0xFFEC ∷ 0xFE80 ∷ 0xE800 ∷ 0xFFE8 ∷ 0xFF00 ∷ 0xFFF0 ∷ 0xF000 ∷
    0xF710 ∷ 0x008E ∷ 0x7100 ∷ 0x08CE ∷ 0x008C ∷ 0x7310 ∷ 0x3100 ∷ 0x8CCE ∷ 0x088C ∷ 0x3110 ∷ 0x6666 ∷ 0x366C ∷ 0x17E8 ∷ 0x0FF0 ∷ 0x718E ∷ 0x399C ∷
    0xAAAA ∷ 0xF0F0 ∷ 0x5A5A ∷ 0x33CC ∷ 0x3C3C ∷ 0x55AA ∷ 0x9696 ∷ 0xA55A ∷ 0x73CE ∷ 0x13C8 ∷ 0x324C ∷ 0x3BDC ∷ 0x6996 ∷ 0xC33C ∷ 0x9966 ∷ 0x0660 ∷
    0x0272 ∷ 0x04E4 ∷ 0x4E40 ∷ 0x2720 ∷ 0xC936 ∷ 0x936C ∷ 0x39C6 ∷ 0x639C ∷ 0x9336 ∷ 0x9CC6 ∷ 0x817E ∷ 0xE718 ∷ 0xCCF0 ∷ 0x0FCC ∷ 0x7744 ∷ 0xEE22 ∷ []

-- S-68: the fix-up pixel of region 1 of two
abbrev fixups2 : List ℕ
fixups2 =
    15 ∷ 15 ∷ 15 ∷ 15 ∷ 15 ∷ 15 ∷ 15 ∷ 15 ∷ 15 ∷ 15 ∷ 15 ∷ 15 ∷ 15 ∷ 15 ∷ 15 ∷ 15 ∷ 15 ∷ 2 ∷ 8 ∷ 2 ∷ 2 ∷ 8 ∷ 8 ∷ 15 ∷ 2 ∷ 8 ∷ 2 ∷ 2 ∷ 8 ∷ 8 ∷ 2 ∷ 2 ∷
    15 ∷ 15 ∷ 6 ∷ 8 ∷ 2 ∷ 8 ∷ 15 ∷ 15 ∷ 2 ∷ 8 ∷ 2 ∷ 2 ∷ 2 ∷ 15 ∷ 15 ∷ 6 ∷ 6 ∷ 2 ∷ 6 ∷ 8 ∷ 15 ∷ 15 ∷ 2 ∷ 2 ∷ 15 ∷ 15 ∷ 15 ∷ 15 ∷ 15 ∷ 2 ∷ 2 ∷ 15 ∷ []

-- S-68: a row of three regions as a 32-bit map, bits 2k and 2k + 1 for pixel k
abbrev maps3 : List ℕ
maps3 =
    0xAA685050 ∷ 0x6A5A5040 ∷ 0x5A5A4200 ∷ 0x5450A0A8 ∷ 0xA5A50000 ∷ 0xA0A05050 ∷ 0x5555A0A0 ∷ 0x5A5A5050 ∷
    0xAA550000 ∷ 0xAA555500 ∷ 0xAAAA5500 ∷ 0x90909090 ∷ 0x94949494 ∷ 0xA4A4A4A4 ∷ 0xA9A59450 ∷ 0x2A0A4250 ∷
    0xA5945040 ∷ 0x0A425054 ∷ 0xA5A5A500 ∷ 0x55A0A0A0 ∷ 0xA8A85454 ∷ 0x6A6A4040 ∷ 0xA4A45000 ∷ 0x1A1A0500 ∷
    0x0050A4A4 ∷ 0xAAA59090 ∷ 0x14696914 ∷ 0x69691400 ∷ 0xA08585A0 ∷ 0xAA821414 ∷ 0x50A4A450 ∷ 0x6A5A0200 ∷
    0xA9A58000 ∷ 0x5090A0A8 ∷ 0xA8A09050 ∷ 0x24242424 ∷ 0x00AA5500 ∷ 0x24924924 ∷ 0x24499224 ∷ 0x50A50A50 ∷
    0x500AA550 ∷ 0xAAAA4444 ∷ 0x66660000 ∷ 0xA5A0A5A0 ∷ 0x50A050A0 ∷ 0x69286928 ∷ 0x44AAAA44 ∷ 0x66666600 ∷
    0xAA444444 ∷ 0x54A854A8 ∷ 0x95809580 ∷ 0x96969600 ∷ 0xA85454A8 ∷ 0x80959580 ∷ 0xAA141414 ∷ 0x96960000 ∷
    0xAAAA1414 ∷ 0xA05050A0 ∷ 0xA0A5A5A0 ∷ 0x96000000 ∷ 0x40804080 ∷ 0xA9A8A9A8 ∷ 0xAAAAAA44 ∷ 0x2A4A5254 ∷ []

-- S-68: the fix-up pixels of regions 1 and 2
abbrev fixups31 : List ℕ
fixups31 =
    3 ∷ 3 ∷ 15 ∷ 15 ∷ 8 ∷ 3 ∷ 15 ∷ 15 ∷ 8 ∷ 8 ∷ 6 ∷ 6 ∷ 6 ∷ 5 ∷ 3 ∷ 3 ∷ 3 ∷ 3 ∷ 8 ∷ 15 ∷ 3 ∷ 3 ∷ 6 ∷ 10 ∷ 5 ∷ 8 ∷ 8 ∷ 6 ∷ 8 ∷ 5 ∷ 15 ∷ 15 ∷
    8 ∷ 15 ∷ 3 ∷ 5 ∷ 6 ∷ 10 ∷ 8 ∷ 15 ∷ 15 ∷ 3 ∷ 15 ∷ 5 ∷ 15 ∷ 15 ∷ 15 ∷ 15 ∷ 3 ∷ 15 ∷ 5 ∷ 5 ∷ 5 ∷ 8 ∷ 5 ∷ 10 ∷ 5 ∷ 10 ∷ 8 ∷ 13 ∷ 15 ∷ 12 ∷ 3 ∷ 3 ∷ []

abbrev fixups32 : List ℕ
fixups32 =
    15 ∷ 8 ∷ 8 ∷ 3 ∷ 15 ∷ 15 ∷ 3 ∷ 8 ∷ 15 ∷ 15 ∷ 15 ∷ 15 ∷ 15 ∷ 15 ∷ 15 ∷ 8 ∷ 15 ∷ 8 ∷ 15 ∷ 3 ∷ 15 ∷ 8 ∷ 15 ∷ 8 ∷ 3 ∷ 15 ∷ 6 ∷ 10 ∷ 15 ∷ 15 ∷ 10 ∷ 8 ∷
    15 ∷ 3 ∷ 15 ∷ 10 ∷ 10 ∷ 8 ∷ 9 ∷ 10 ∷ 6 ∷ 15 ∷ 8 ∷ 15 ∷ 3 ∷ 6 ∷ 6 ∷ 8 ∷ 15 ∷ 3 ∷ 15 ∷ 15 ∷ 15 ∷ 15 ∷ 15 ∷ 15 ∷ 15 ∷ 15 ∷ 15 ∷ 15 ∷ 3 ∷ 15 ∷ 15 ∷ 8 ∷ []

abbrev two? : ℕ → Bool
two? p = both (eqb (of_digits 2 (regions_in (row_of 2 p))) (get_or maps2 p 0)) (eqb (row_fixup 2 p 1) (get_or fixups2 p 0))

abbrev three? : ℕ → Bool
three? p =
    both (eqb (of_digits 4 (regions_in (row_of 3 p))) (get_or maps3 p 0))
    (both (eqb (row_fixup 3 p 1) (get_or fixups31 p 0)) (eqb (row_fixup 3 p 2) (get_or fixups32 p 0)))

all_two : T (below two? 64)
unfolding partition_set_3 row_region fixups_of
all_two = tt

all_three : T (below three? 64)
unfolding partition_set_3 row_region fixups_of
all_three = tt
