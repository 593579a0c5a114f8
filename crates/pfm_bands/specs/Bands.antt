-- S-98: a Portable Float Map of any size, a row of blocks at a time. Assumes nothing.
use Rattle.std.specs.Prelude.{◌≡◌, List, ◌++◌, ℕ, ◌+◌, ◌-◌, ◌*◌, ◌≤◌, min, take, drop}
use Rattle.laws.specs.Made.{made, join}
use Rattle.bcn_spec.specs.Bits.{block_size, size_limit}
use Rattle.dds.specs.Dds.{blocks_along}
use Rattle.pfm.specs.File.{body_of, file_in}

-- S-98: the file of a picture of any size: what its blocks show past its right and its lower edge is left out.
abbrev pub picture_of : List ℕ → ℕ → ℕ → ℕ → List ℕ
picture_of blocks format width height = file_in blocks format (blocks_along width) width height

-- S-98, S-99: row of blocks d from the top, and how many of its four rows of pixels the picture has.
abbrev pub band_in : List ℕ → ℕ → ℕ → List ℕ
band_in blocks across d = take (block_size * across) (drop (block_size * across * d) blocks)

abbrev pub rows_in : ℕ → ℕ → ℕ
rows_in height d = min 4 (height - 4 * d)

-- S-98: the rows of blocks from the bottom up: what the file has of row n, a picture of its own blocks alone.
abbrev pub from_bottom : ℕ → ℕ → ℕ
from_bottom height n = blocks_along height - 1 - n

unfoldable pub piece_up : List ℕ → ℕ → ℕ → ℕ → ℕ → List ℕ
piece_up blocks format width height n =
    body_of (band_in blocks (blocks_along width) (from_bottom height n)) format (blocks_along width) width (rows_in height (from_bottom height n))

-- the last rows of the four that stand in `lines`, each cropped
unfoldable pub cropped_row : List ℕ → ℕ → ℕ → ℕ → ℕ → List ℕ
cropped_row lines across width rows i = take (12 * width) (drop (48 * across * (4 - rows + i)) lines)

unfoldable pub cropped_rows : List ℕ → ℕ → ℕ → ℕ → List ℕ
cropped_rows lines across width rows = join (made (cropped_row lines across width rows) rows)

-- what fits: lengths of the blocks, of the rows as they are written, and of what is lent
pub record RowsFit (format width rows blocks lines out : ℕ) : Type 0 where
  pub known : format ≤ 1
  pub most : width ≤ size_limit
  pub four : rows ≤ 4
  pub whole : block_size * blocks_along width ≤ blocks
  pub lined : 192 * blocks_along width ≤ lines
  pub room : 12 * width * rows ≤ out

-- The statement of `put_rows`: its answer r, and the lent bytes `after`.
pub record RowsPut (band : List ℕ) (format width rows : ℕ) (out : List ℕ) (r : ℕ) (after : List ℕ) : Type 0 where
  pub count : r ≡ 12 * width * rows
  pub holds : after ≡ body_of band format (blocks_along width) width rows ++ drop (12 * width * rows) out
