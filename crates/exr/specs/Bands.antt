-- S-92: the same lines in the order in which they are written: block by block, one channel of four pixels at a time. Assumes nothing.
use Rattle.std.specs.Prelude.{List, ◌++◌, ℕ, ◌+◌, ◌*◌, get_or}
use Rattle.std.proofs.lemmas.List.Edits.{sets}
use Rattle.laws.specs.Made.{made, join}
use Rattle.laws.specs.Bit.{low_bytes}
use Rattle.bc6h_spec.specs.Picture.{is_signed}
use Rattle.bc6h_spec.specs.Block.{pixels_of}
use Rattle.bcn_spec.specs.Bits.{block_at}
use Rattle.exr.specs.File.{head_of}

-- one channel of the four pixels of a row of a block
unfoldable pub quarter_of : List ℕ → ℕ → ℕ → List ℕ
quarter_of values channel row =
    low_bytes 2 (get_or values (3 * (4 * row) + channel) 0)
    ++ (low_bytes 2 (get_or values (3 * (4 * row + 1) + channel) 0)
    ++ (low_bytes 2 (get_or values (3 * (4 * row + 2) + channel) 0) ++ low_bytes 2 (get_or values (3 * (4 * row + 3) + channel) 0)))

-- four stores, each `stride` bytes behind the one before
abbrev pub four_sets : List ℕ → ℕ → ℕ → List ℕ → List ℕ → List ℕ → List ℕ → List ℕ
four_sets out at stride p q r s = sets (sets (sets (sets out at p) (at + stride) q) (at + 2 * stride) r) (at + 3 * stride) s

-- one channel of a block, in four lines
abbrev pub channel_sets : List ℕ → ℕ → ℕ → List ℕ → ℕ → List ℕ
channel_sets values channel stride out at =
    four_sets out at stride (quarter_of values channel 0) (quarter_of values channel 1) (quarter_of values channel 2) (quarter_of values channel 3)

-- its three channels: in each line all blue values stand before all green ones, and those before all red ones
abbrev pub block_sets : List ℕ → ℕ → List ℕ → ℕ → List ℕ
block_sets values across out column =
    channel_sets values 0 (8 + 24 * across)
    (channel_sets values 1 (8 + 24 * across) (channel_sets values 2 (8 + 24 * across) out (8 + 8 * column)) (8 + 8 * column + 8 * across))
    (8 + 8 * column + 2 * (8 * across))

-- the heads of four lines
abbrev pub head_sets : ℕ → ℕ → List ℕ → ℕ → List ℕ
head_sets across y out at =
    four_sets out at (8 + 24 * across) (head_of (4 * across) y) (head_of (4 * across) (y + 1)) (head_of (4 * across) (y + 2)) (head_of (4 * across) (y + 3))

-- one channel of row `row` of the block that stands `column` behind block `first`
unfoldable pub cell_at : List ℕ → ℕ → ℕ → ℕ → ℕ → ℕ → List ℕ
cell_at blocks format first channel row column = quarter_of (pixels_of (is_signed format) (block_at blocks (first + column))) channel row

-- one channel of a line
unfoldable pub run_at : List ℕ → ℕ → ℕ → ℕ → ℕ → ℕ → List ℕ
run_at blocks format first across channel row = join (made (cell_at blocks format first channel row) across)

-- a line of the row of blocks that begins at block `first`; y is its number
unfoldable pub band_line : List ℕ → ℕ → ℕ → ℕ → ℕ → ℕ → List ℕ
band_line blocks format first across row y =
    head_of (4 * across) y ++ (run_at blocks format first across 2 row ++ (run_at blocks format first across 1 row ++ run_at blocks format first across 0 row))

-- its four lines; y is the number of the first
unfoldable pub band_at : List ℕ → ℕ → ℕ → ℕ → ℕ → List ℕ
band_at blocks format first across y =
    band_line blocks format first across 0 y
    ++ (band_line blocks format first across 1 (y + 1) ++ (band_line blocks format first across 2 (y + 2) ++ band_line blocks format first across 3 (y + 3)))

-- row of blocks n
unfoldable pub band_of : List ℕ → ℕ → ℕ → ℕ → List ℕ
band_of blocks format across n = band_at blocks format (across * n) across (4 * n)

unfoldable pub bands_of : List ℕ → ℕ → ℕ → ℕ → List ℕ
bands_of blocks format across down = join (made (band_of blocks format across) down)
