-- S-98, S-99: what the program writes of a wish, and of each row of blocks behind it. Assumes nothing.
use Rattle.std.specs.Prelude.{◌≡◌, Bool, List, ℕ, ◌*◌, ◌≤◌, eqb, leb, length, take}
use Rattle.laws.specs.Pick.{pick, both}
use Rattle.dds.specs.Dds.{SizeOurs, size_ours, blocks_along}
use Rattle.pfm_header.specs.Header.{header_of}
use Rattle.pfm.specs.File.{body_of}
use Rattle.pfm_bands.specs.Bands.{band_in, rows_in, from_bottom}
use Rattle.pfm_bands.specs.Bands as pfm
use Rattle.exr_header.specs.Header as exr-header
use Rattle.exr_bands.specs.Bands.{piece_of}
use Rattle.exr_bands.specs.Bands as exr

-- Kind 0 is a Portable Float Map, 1 an OpenEXR file; format 0 is unsigned, 1 signed; width and height are 1 to 4,096.
unfoldable pub wish_ours : ℕ → ℕ → ℕ → ℕ → Bool
wish_ours kind format width height = both (both (leb kind 1) (leb format 1)) (size_ours width height)

pub record WishOurs (kind format width height : ℕ) : Type 0 where
  pub named : kind ≤ 1
  pub known : format ≤ 1
  pub size : SizeOurs width height

-- what stands before the rows of blocks
unfoldable pub front_for : ℕ → ℕ → ℕ → List ℕ
front_for kind width height = pick (eqb kind 0) (header_of width height) (exr-header.front_of width height)

-- the row of blocks, from the top, that is read in turn n
unfoldable pub band_for : ℕ → ℕ → ℕ → ℕ
band_for kind height n = pick (eqb kind 0) (from_bottom height n) n

-- what is written for it, of its own blocks
unfoldable pub piece_for : ℕ → ℕ → ℕ → ℕ → ℕ → List ℕ → List ℕ
piece_for kind format width height n band =
    pick (eqb kind 0) (body_of band format (blocks_along width) width (rows_in height (from_bottom height n))) (piece_of band format width (4 * n) (rows_in height n))

-- turn n over a picture's blocks in row order, and the whole file
unfoldable pub piece_at : ℕ → List ℕ → ℕ → ℕ → ℕ → ℕ → List ℕ
piece_at kind blocks format width height n = piece_for kind format width height n (band_in blocks (blocks_along width) (band_for kind height n))

unfoldable pub file_for : ℕ → List ℕ → ℕ → ℕ → ℕ → List ℕ
file_for kind blocks format width height = pick (eqb kind 0) (pfm.picture_of blocks format width height) (exr.picture_of blocks format width height)

-- what may be written: the first bytes of `out` are what a definition says
pub record Says (definition : List ℕ) (out : List ℕ) (end : ℕ) : Type 0 where
  pub fits : end ≤ length out
  pub says : take end out ≡ definition
