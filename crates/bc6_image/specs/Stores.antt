-- S-33: the same values in the order in which they are stored: block by block, row by row, pixel by pixel. Assumes nothing.
use Rattle.std.specs.Prelude.{◌≡◌, Bool, List, [], ◌∷◌, ℕ, zero, suc, ◌+◌, ◌-◌, ◌*◌, ◌/◌, ◌%◌, ◌≤◌, ◌<◌, get_or}
use Rattle.std.proofs.lemmas.List.Edits.{sets}
use Rattle.laws.specs.Pick.{pick}
use Rattle.laws.specs.Made.{made, count_of, join}
use Rattle.bcn_spec.specs.Bits.{block_size}
use Rattle.bc6h_spec.specs.Half.{minus_infinity}
use Rattle.bc6_blocks.specs.Run.{shown_at, run_of}
use Rattle.bc6_image.specs.Face.{lanes, opaque, row_size}

-- the first n of a row of lists, each stored from its own place on
unfoldable pub stored_cells : (ℕ → ℕ) → (ℕ → List ℕ) → ℕ → List ℕ → List ℕ
stored_cells place cell zero out = out
stored_cells place cell (suc n) out = sets (stored_cells place cell n out) (place n) (cell n)

-- pixel k of a block
unfoldable pub pixel_of : Bool → List ℕ → ℕ → List ℕ
pixel_of alpha values k = get_or values (3 * k) 0 ∷ get_or values (3 * k + 1) 0 ∷ get_or values (3 * k + 2) 0 ∷ pick alpha (opaque ∷ []) []

-- pixel j of a row of a block, and the four of the row
unfoldable pub pixel_in : Bool → List ℕ → ℕ → ℕ → List ℕ
pixel_in alpha values row j = pixel_of alpha values (4 * row + j)

abbrev pub block_row : Bool → List ℕ → ℕ → List ℕ
block_row alpha values row = join (made (pixel_in alpha values row) 4)

-- value x of a row without alpha
unfoldable pub plain_value : List ℕ → ℕ → ℕ → ℕ
plain_value values row x = get_or values (12 * row + x) 0

-- where pixel k goes, of the block whose first value stands at `at`; and the sixteen
unfoldable pub pixel_place : Bool → ℕ → ℕ → ℕ → ℕ
pixel_place alpha pitch at k = at + (pitch * (k / 4) + lanes alpha * (k % 4))

abbrev pub block_put : Bool → ℕ → List ℕ → ℕ → List ℕ → List ℕ
block_put alpha pitch values at out = stored_cells (pixel_place alpha pitch at) (pixel_of alpha values) 16 out

-- where block n stands
abbrev pub corner : Bool → ℕ → ℕ → ℕ → ℕ
corner alpha width pitch n = pitch * (4 * (n / width)) + lanes alpha * (4 * (n % width))

-- pixel q of all, sixteen a block: its place, and its values
unfoldable pub place_at : Bool → ℕ → ℕ → ℕ → ℕ
place_at alpha width pitch q = pixel_place alpha pitch (corner alpha width pitch (q / 16)) (q % 16)

unfoldable pub cell_at : Bool → Bool → List ℕ → ℕ → List ℕ
cell_at signed alpha blocks q = pixel_of alpha (shown_at signed blocks (q / 16)) (q % 16)

-- the first n blocks
abbrev pub face_put : Bool → Bool → List ℕ → ℕ → ℕ → ℕ → List ℕ → List ℕ
face_put signed alpha blocks width pitch n out = stored_cells (place_at alpha width pitch) (cell_at signed alpha blocks) (16 * n) out

-- All blocks of a face, painted; and how many values of them are minus infinity.
pub record FaceWritten (signed alpha : Bool) (blocks : List ℕ) (width pitch count : ℕ) (out : List ℕ) (infinite : ℕ) (after : List ℕ) : Type 0 where
  pub holds : after ≡ face_put signed alpha blocks width pitch count out
  pub counts : infinite ≡ count_of minus_infinity (run_of signed blocks count)

-- Bytes, pitch and room are a face's.
pub record Fitting (alpha : Bool) (width height pitch size room : ℕ) : Type 0 where
  pub bytes : size ≡ block_size * (width * height)
  pub pitched : 0 < width * height → row_size alpha width ≤ pitch
  pub enough : 0 < width * height → pitch * (4 * height - 1) + row_size alpha width ≤ room
