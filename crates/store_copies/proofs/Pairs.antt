-- Pairs of different blocks that show one picture, each by missing one premise. Bytes in hex. Assumes nothing.
use mathlib.Core.List.{List, [], ◌∷◌, ◌++◌}
use Prim.Native.Nat.{ℕ}
use lib.ListN.{replicate}
use Rattle.bc6h_spec.specs.Named.{B3, B4}
use Rattle.store_copies.proofs.Premises.{Pair}

abbrev z : ℕ → List ℕ
z n = replicate n 0

abbrev unsigned : List ℕ → List ℕ → Pair
unsigned x y = record { format = 0; x = x; other = 0; y = y }

abbrev signed : List ℕ → List ℕ → Pair
signed x y = record { format = 1; x = x; other = 1; y = y }

-- ---- one region

-- B3, and B3 with a byte more
abbrev pub longer : Pair
longer = unsigned B3 (B3 ++ z 1)

-- S-5: B3 and B4 have two modes and show one picture
abbrev pub two_modes : Pair
two_modes = unsigned B3 B4

-- S-5: the scaling of mode 14 merges neighbours: green's ends are 0 in x and 1 in y
abbrev pub in_mode_14 : Pair
in_mode_14 = unsigned (0x0F ∷ z 3 ++ (0x78 ∷ z 10) ++ (0xF0 ∷ [])) (0x0F ∷ 0x80 ∷ z 2 ++ (0x78 ∷ z 10) ++ (0xF0 ∷ []))

-- red: x shows 168 at index 0 of 168 to 1023, y at index 2 of 28 to 1023
abbrev pub without_index_0 : Pair
without_index_0 =
    unsigned (0x03 ∷ 0x15 ∷ z 2 ++ (0xF8 ∷ 0x1F ∷ z 9) ++ (0xF0 ∷ []))
    (0x83 ∷ 0x03 ∷ z 2 ++ (0xF8 ∷ 0x1F ∷ z 2) ++ (0x24 ∷ replicate 6 0x22) ++ (0xF2 ∷ []))

-- red: x shows 855 at index 15 of 0 to 855, y at index 13 of 0 to 995
abbrev pub without_index_15 : Pair
without_index_15 = unsigned (0x03 ∷ z 3 ++ (0xB8 ∷ 0x1A ∷ z 9) ++ (0xF0 ∷ [])) (0x03 ∷ z 3 ++ (0x18 ∷ 0x1F ∷ z 9) ++ (0xD0 ∷ []))

-- red from 0 to 1 of 12 bits: its ends differ, and indices 0 and 1 show the same; x has 0 where y has 1
abbrev pub only_ends_differ : Pair
only_ends_differ = unsigned (0x0B ∷ z 3 ++ (0x08 ∷ z 10) ++ (0xF0 ∷ [])) (0x0B ∷ z 3 ++ (0x08 ∷ z 3) ++ (0x10 ∷ replicate 6 0x11) ++ (0xF1 ∷ []))

-- red's first end is −512 in x, which is −2 ^ (p − 1), and −511 in y
abbrev pub least : Pair
least = signed (0x03 ∷ 0x40 ∷ z 2 ++ (0xF8 ∷ 0x0F ∷ z 9) ++ (0xF0 ∷ [])) (0x23 ∷ 0x40 ∷ z 2 ++ (0xF8 ∷ 0x0F ∷ z 9) ++ (0xF0 ∷ []))

-- red to the highest pattern: unsigned that is 1023 (x is B3), signed 511
abbrev pub two_formats : Pair
two_formats = record { format = 0; x = B3; other = 1; y = 0x03 ∷ z 3 ++ (0xF8 ∷ 0x0F ∷ z 9) ++ (0xF0 ∷ []) }

-- ---- two regions. In partition 0, columns 2 and 3 are region 1; in each pair pixel 1 of region 0 is at index 7.

-- mode 10, red from 0 to 63 in both regions: partition 0 in x and 13 in y, and the same indices
abbrev pub two_partitions : Pair
two_partitions =
    unsigned (0x1E ∷ z 3 ++ (0xF8 ∷ 0x01 ∷ z 2) ++ (0x80 ∷ 0x1F ∷ 0x70 ∷ z 4) ++ (0x38 ∷ []))
    (0x1E ∷ z 3 ++ (0xF8 ∷ 0x01 ∷ z 2) ++ (0x80 ∷ 0xBF ∷ 0x71 ∷ z 4) ++ (0x38 ∷ []))

-- mode 1, red of region 1: x shows 2 at index 0 of 2 to 0, y at index 2 of 3 to 0
abbrev pub region_without_index_0 : Pair
region_without_index_0 =
    unsigned (z 4 ++ (0x08 ∷ z 3) ++ (0x04 ∷ 0x00 ∷ 0xF0 ∷ 0x1F ∷ 0xF8 ∷ 0x81 ∷ 0x1F ∷ 0x38 ∷ []))
    (z 4 ++ (0x08 ∷ z 3) ++ (0x06 ∷ 0x00 ∷ 0xF0 ∷ 0x1F ∷ 0xF8 ∷ 0x81 ∷ 0x1F ∷ 0xB8 ∷ []))

-- mode 1, red of region 1: x shows 2 at index 7 of 0 to 2, y at index 5 of 0 to 3
abbrev pub region_without_index_7 : Pair
region_without_index_7 =
    unsigned (z 4 ++ (0x08 ∷ z 4) ++ (0x01 ∷ 0x70 ∷ z 4) ++ (0x38 ∷ []))
    (z 4 ++ (0x08 ∷ z 3) ++ (0x80 ∷ 0x01 ∷ 0x70 ∷ z 4) ++ (0x28 ∷ []))

-- mode 10: region 1 is black, and pixel 2 has index 0 in x and 3 in y
abbrev pub flat_region : Pair
flat_region =
    unsigned (0x1E ∷ z 3 ++ (0xF8 ∷ 0x01 ∷ z 4) ++ (0x70 ∷ z 4) ++ (0x38 ∷ []))
    (0x1E ∷ z 3 ++ (0xF8 ∷ 0x01 ∷ z 4) ++ (0xF0 ∷ 0x01 ∷ z 3) ++ (0x38 ∷ []))

-- mode 10, red of region 1: its first end is −32 in x, which is −2 ^ (p − 1), and −31 in y
abbrev pub least_of_region : Pair
least_of_region =
    signed (0x1E ∷ z 3 ++ (0xF8 ∷ z 3) ++ (0xC0 ∷ 0x0F ∷ 0x70 ∷ z 4) ++ (0x38 ∷ []))
    (0x1E ∷ z 3 ++ (0xF8 ∷ z 3) ++ (0xC2 ∷ 0x0F ∷ 0x70 ∷ z 4) ++ (0x38 ∷ []))

-- mode 10, red from 0 to the highest pattern in both regions: unsigned that is 63, signed 31
abbrev pub regions_of_two_formats : Pair
regions_of_two_formats =
    record {
      format = 0;
      x = 0x1E ∷ z 3 ++ (0xF8 ∷ 0x01 ∷ z 2) ++ (0x80 ∷ 0x1F ∷ 0x70 ∷ z 4) ++ (0x38 ∷ []);
      other = 1;
      y = 0x1E ∷ z 3 ++ (0xF8 ∷ z 3) ++ (0x80 ∷ 0x0F ∷ 0x70 ∷ z 4) ++ (0x38 ∷ []);
    }
