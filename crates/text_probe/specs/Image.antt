-- S-64, S-74: the values of a square picture, row by row from the top, as a Portable Float Map. Assumes nothing.
use Rattle.std.specs.Prelude.{List, ◌++◌, ℕ, ◌+◌, ◌-◌, ◌*◌, ◌/◌, ◌%◌, ◌<◌}
use Rattle.laws.specs.Made.{made, join}
use Rattle.pfm_floats.specs.Bytes.{Numbers}
use Rattle.pfm_header.specs.Header.{header_of}
use Rattle.pfm.specs.File.{colour_at, pixel_bytes}

-- S-64: rows come from the bottom up: pixel j of the file is pixel j mod side of row side − 1 − j div side
unfoldable pub pixel_up : ℕ → ℕ → ℕ
pixel_up side j = (side - 1 - j / side) * side + j % side

unfoldable pub image_pixel : List ℕ → ℕ → ℕ → List ℕ
image_pixel values side j = pixel_bytes values (pixel_up side j)

unfoldable pub image_body : List ℕ → ℕ → List ℕ
image_body values side = join (made (image_pixel values side) (side * side))

unfoldable pub image_file : List ℕ → ℕ → List ℕ
image_file values side = header_of side side ++ image_body values side

-- no value of the first pixels is a NaN, which has no bits of its own
pub record PixelsNumbers (values : List ℕ) (count : ℕ) : Type 0 where
  pub each : (k : ℕ) → k < count → Numbers (colour_at values k)
