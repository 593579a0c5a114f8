-- S-72: the worked blocks, C1 to C11: one table, and a single theorem over it. Assumes nothing.
use mathlib.Core.Bool.{Bool}
use mathlib.Core.List.{List, [], ◌∷◌, ◌++◌}
use Prim.Native.Nat.{ℕ, ◌/◌, ◌%◌}
use lib.Dec.{T, eqb}
use lib.ListN.{replicate}
use Rattle.laws.specs.Pick.{both}
use Rattle.laws.specs.Every.{every, same}
use Rattle.laws.specs.Made.{made}
use Rattle.laws.specs.First.{first_below}
use Rattle.laws.specs.Packed.{before, unpacked}
use Rattle.bcn_spec.specs.Rows.{partition_set_3, fixups_of, row_region}
use Rattle.bc7_spec.specs.Modes.{modes, mode_at}
use Rattle.bc7_spec.specs.Layout.{run_bits, run_in}
use Rattle.bc7_spec.specs.Fields.{mode_in, mode_of, partition_in, rotation_in, selection_in, stored_in, pbit_in, first_index_in, second_index_in}
use Rattle.bc7_spec.specs.Bytes.{lowered, widened, weight_of, by_second, between, turned}
use Rattle.bc7_spec.specs.Block.{end_in, weight_in, value_in, byte_in, colour_bytes}

-- a row: the block's bytes, the mode, and the sixteen pixels, each as RRGGBBAA
record Row : Type 0 where
  bytes : List ℕ
  mode : ℕ
  pixels : List ℕ

-- z with a number is that many zero bytes, f that many bytes FF
abbrev z : ℕ → List ℕ
z n = replicate n 0

abbrev f : ℕ → List ℕ
f n = replicate n 0xFF

abbrev all : ℕ → List ℕ
all v = replicate 16 v

abbrev pub C1 : List ℕ
C1 = (0x00 ∷ []) ++ f 15

abbrev pub C2 : List ℕ
C2 = (0x05 ∷ 0x1E ∷ []) ++ z 3 ++ (0x1E ∷ []) ++ z 3 ++ (0x5E ∷ 0xFC ∷ []) ++ f 5

abbrev pub C3 : List ℕ
C3 = (0x8A ∷ 0xC0 ∷ 0x0F ∷ []) ++ z 3 ++ (0x80 ∷ []) ++ z 3 ++ (0xFD ∷ []) ++ f 5

abbrev pub C4 : List ℕ
C4 = (0x2C ∷ 0xC1 ∷ 0x07 ∷ []) ++ z 4 ++ (0x04 ∷ []) ++ z 3 ++ (0x40 ∷ 0xF8 ∷ []) ++ f 3

abbrev pub C5 : List ℕ
C5 = (0xD8 ∷ 0x03 ∷ 0xFE ∷ []) ++ z 5 ++ (0x02 ∷ []) ++ z 2 ++ (0x80 ∷ 0xFC ∷ []) ++ f 3

abbrev pub C6 : List ℕ
C6 = (0x30 ∷ 0xE0 ∷ 0x8F ∷ 0xF0 ∷ 0x01 ∷ 0x00 ∷ 0xCA ∷ 0xC9 ∷ 0xC9 ∷ 0xC9 ∷ 0x89 ∷ 0xC6 ∷ 0xFA ∷ 0x88 ∷ 0xC6 ∷ 0xFA ∷ [])

abbrev pub C7 : List ℕ
C7 = (0xD0 ∷ 0xE0 ∷ 0x8F ∷ 0xF0 ∷ 0x01 ∷ 0x00 ∷ 0xCA ∷ 0xC9 ∷ 0xC9 ∷ 0xC9 ∷ 0x89 ∷ 0xC6 ∷ 0xFA ∷ 0x88 ∷ 0xC6 ∷ 0xFA ∷ [])

abbrev pub C8 : List ℕ
C8 = (0xE0 ∷ 0x80 ∷ 0x3F ∷ []) ++ z 2 ++ (0x04 ∷ 0x0C ∷ 0x20 ∷ []) ++ f 4 ++ (0x93 ∷ 0x03 ∷ []) ++ z 2

abbrev pub C9 : List ℕ
C9 = (0x40 ∷ 0xC0 ∷ 0x1F ∷ 0x00 ∷ 0x04 ∷ []) ++ z 3 ++ (0x11 ∷ 0x32 ∷ 0x54 ∷ 0x76 ∷ 0x98 ∷ 0xBA ∷ 0xDC ∷ 0xFE ∷ [])

abbrev pub C10 : List ℕ
C10 = (0x80 ∷ 0x30 ∷ 0xF8 ∷ []) ++ z 3 ++ (0x3E ∷ 0x28 ∷ 0x00 ∷ 0x80 ∷ 0x00 ∷ 0xBF ∷ 0xFC ∷ []) ++ f 3

abbrev pub C11 : List ℕ
C11 = f 16

abbrev blocks : List Row
blocks =
    record { bytes = C1; mode = 8; pixels = all 0x00000000 }
    ∷ record { bytes = C2; mode = 0; pixels = 0x6C0303FF ∷ 0xFF0808FF ∷ 0xFF0808FF ∷ 0xFF0808FF ∷ 0x0808FFFF ∷ 0xFF0808FF ∷ 0xFF0808FF ∷ 0x00F700FF ∷ 0x03036CFF ∷ 0x0808FFFF ∷ 0x00F700FF ∷ 0x00F700FF ∷ 0x0808FFFF ∷ 0x0808FFFF ∷ 0x00F700FF ∷ 0x006800FF ∷ [] }
    ∷ record { bytes = C3; mode = 1; pixels = 0x6D0202FF ∷ 0x008100FF ∷ 0xFF0202FF ∷ 0x008100FF ∷ 0x008100FF ∷ 0xFF0202FF ∷ 0x003600FF ∷ 0xFF0202FF ∷ 0xFF0202FF ∷ 0x008100FF ∷ 0xFF0202FF ∷ 0x008100FF ∷ 0x008100FF ∷ 0xFF0202FF ∷ 0x008100FF ∷ 0xFF0202FF ∷ [] }
    ∷ record { bytes = C4; mode = 2; pixels = 0x540000FF ∷ 0x008400FF ∷ 0x000008FF ∷ 0xFF0000FF ∷ 0x008400FF ∷ 0x000008FF ∷ 0xFF0000FF ∷ 0x008400FF ∷ 0x000003FF ∷ 0xFF0000FF ∷ 0x002B00FF ∷ 0x000008FF ∷ 0xFF0000FF ∷ 0x008400FF ∷ 0x000008FF ∷ 0xFF0000FF ∷ [] }
    ∷ record { bytes = C5; mode = 3; pixels = 0x540000FF ∷ 0xFF0101FF ∷ 0x002A00FF ∷ 0x008000FF ∷ 0xFF0101FF ∷ 0xFF0101FF ∷ 0x008000FF ∷ 0x008000FF ∷ 0x008000FF ∷ 0x008000FF ∷ 0x008000FF ∷ 0x008000FF ∷ 0xFF0101FF ∷ 0xFF0101FF ∷ 0xFF0101FF ∷ 0xFF0101FF ∷ [] }
    ∷ record { bytes = C6; mode = 4; pixels = 0x0018FF00 ∷ 0x1213AB54 ∷ 0x250D54AB ∷ 0x370800FF ∷ 0x4B18FF00 ∷ 0x5D13AB54 ∷ 0x700D54AB ∷ 0x820800FF ∷ 0x0018FF00 ∷ 0x1213AB54 ∷ 0x250D54AB ∷ 0x370800FF ∷ 0x4B18FF00 ∷ 0x5D13AB54 ∷ 0x700D54AB ∷ 0x820800FF ∷ [] }
    ∷ record { bytes = C7; mode = 4; pixels = 0x0000FF18 ∷ 0x242BDB16 ∷ 0x4857B714 ∷ 0x6C829311 ∷ 0x93006C0F ∷ 0xB72B480D ∷ 0xDB57240A ∷ 0xFF820008 ∷ 0x0000FF18 ∷ 0x242BDB16 ∷ 0x4857B714 ∷ 0x6C829311 ∷ 0x93006C0F ∷ 0xB72B480D ∷ 0xDB57240A ∷ 0xFF820008 ∷ [] }
    ∷ record { bytes = C8; mode = 5; pixels = 0x54004457 ∷ 0xFF000300 ∷ 0xFF004400 ∷ 0xFF008700 ∷ 0xFF00C800 ∷ 0xFF000300 ∷ 0xFF000300 ∷ 0xFF000300 ∷ 0xFF000300 ∷ 0xFF000300 ∷ 0xFF000300 ∷ 0xFF000300 ∷ 0xFF000300 ∷ 0xFF000300 ∷ 0xFF000300 ∷ 0xFF000300 ∷ [] }
    ∷ record { bytes = C9; mode = 6; pixels = 0x00000000 ∷ 0x10080000 ∷ 0x24120000 ∷ 0x341A0000 ∷ 0x44220000 ∷ 0x542A0000 ∷ 0x68340000 ∷ 0x783C0000 ∷ 0x87450101 ∷ 0x974D0101 ∷ 0xAB570101 ∷ 0xBB5F0101 ∷ 0xCB670101 ∷ 0xDB6F0101 ∷ 0xEF790101 ∷ 0xFF810101 ∷ [] }
    ∷ record { bytes = C10; mode = 7; pixels = 0x54010E04 ∷ 0x00FB00FB ∷ 0xFF042C0C ∷ 0xFF042C0C ∷ 0x00FB00FB ∷ 0x00FB00FB ∷ 0x005200AA ∷ 0xFF042C0C ∷ 0xFF042C0C ∷ 0x00FB00FB ∷ 0xFF042C0C ∷ 0xFF042C0C ∷ 0xFF042C0C ∷ 0xFF042C0C ∷ 0xFF042C0C ∷ 0xFF042C0C ∷ [] }
    ∷ record { bytes = C11; mode = 0; pixels = all 0xFFFFFFFF }
    ∷ []

-- the bytes that the pixels stand for
abbrev quads : List ℕ → List ℕ
quads [] = []
quads (p ∷ ps) = p / 0x1000000 ∷ p / 0x10000 % 0x100 ∷ p / 0x100 % 0x100 ∷ p % 0x100 ∷ quads ps

-- the block has this mode and shows this picture
abbrev shows : Row → Bool
shows r = both (eqb (mode_of r.bytes) r.mode) (same (colour_bytes r.bytes) (quads r.pixels))

-- S-72: every block of the table shows its row.
all_blocks : T (every shows blocks)
unfolding made first_below before unpacked partition_set_3 row_region fixups_of modes mode_at run_bits run_in
    mode_in mode_of partition_in rotation_in selection_in stored_in pbit_in first_index_in second_index_in
    lowered widened weight_of by_second between turned end_in weight_in value_in byte_in colour_bytes
all_blocks = tt
