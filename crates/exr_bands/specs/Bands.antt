-- S-99: an OpenEXR file of any size, a row of blocks at a time. Assumes nothing.
use Rattle.std.specs.Prelude.{◌≡◌, List, ◌++◌, ℕ, ◌+◌, ◌*◌, ◌≤◌, take, drop}
use Rattle.laws.specs.Made.{made, join}
use Rattle.bcn_spec.specs.Bits.{block_size, size_limit}
use Rattle.dds.specs.Dds.{blocks_along}
use Rattle.pfm_bands.specs.Bands.{band_in, rows_in}
use Rattle.exr_header.specs.Header.{line_length}
use Rattle.exr.specs.File.{head_of, values_at, file_in}

-- S-99: the file of a picture of any size: what its blocks show past its right and its lower edge is left out.
abbrev pub picture_of : List ℕ → ℕ → ℕ → ℕ → List ℕ
picture_of blocks format width height = file_in blocks format (blocks_along width) width height

-- line `row` of a row of blocks whose first line has the number `first`
unfoldable pub piece_line : List ℕ → ℕ → ℕ → ℕ → ℕ → ℕ → List ℕ
piece_line band format across width first row = head_of width (first + row) ++ values_at band format across width row

unfoldable pub piece_of : List ℕ → ℕ → ℕ → ℕ → ℕ → List ℕ
piece_of band format width first rows = join (made (piece_line band format (blocks_along width) width first) rows)

-- S-99: what the file has of row of blocks n from the top, by its own blocks alone
unfoldable pub piece_down : List ℕ → ℕ → ℕ → ℕ → ℕ → List ℕ
piece_down blocks format width height n = piece_of (band_in blocks (blocks_along width) n) format width (4 * n) (rows_in height n)

-- the line that begins at `at`, cropped, with the head of its own width and number
unfoldable pub cropped_at : List ℕ → ℕ → ℕ → ℕ → ℕ → List ℕ
cropped_at lines at across width y =
    head_of width y
    ++ (take (2 * width) (drop (at + 8) lines) ++ (take (2 * width) (drop (at + 8 + 8 * across) lines) ++ take (2 * width) (drop (at + 8 + 16 * across) lines)))

unfoldable pub cropped_line : List ℕ → ℕ → ℕ → ℕ → ℕ → List ℕ
cropped_line lines across width first row = cropped_at lines ((8 + 24 * across) * row) across width (first + row)

unfoldable pub cropped_lines : List ℕ → ℕ → ℕ → ℕ → ℕ → List ℕ
cropped_lines lines across width first rows = join (made (cropped_line lines across width first) rows)

-- what fits: lengths of the blocks, of the lines as they are written, and of what is lent
pub record LinesFit (format width first rows blocks lines out : ℕ) : Type 0 where
  pub known : format ≤ 1
  pub most : width ≤ size_limit
  pub number : first ≤ size_limit
  pub four : rows ≤ 4
  pub whole : block_size * blocks_along width ≤ blocks
  pub lined : 32 + 96 * blocks_along width ≤ lines
  pub room : (8 + 6 * width) * rows ≤ out

-- The statement of `put_lines`: its answer r, and the lent bytes `after`.
pub record LinesPut (band : List ℕ) (format width first rows : ℕ) (out : List ℕ) (r : ℕ) (after : List ℕ) : Type 0 where
  pub count : r ≡ line_length width * rows
  pub holds : after ≡ piece_of band format width first rows ++ drop (line_length width * rows) out
