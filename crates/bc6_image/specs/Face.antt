-- S-33: a face of blocks as rows of pixels, in two layouts; what the calls over one answer, and what the lent values then are. Assumes nothing.
use Rattle.std.specs.Prelude.{◌≡◌, Bool, not, List, [], ◌∷◌, ℕ, zero, suc, ◌+◌, ◌-◌, ◌*◌, ◌/◌, ◌%◌, ◌<◌, eqb, leb, ltb, length, get_or, Result, Ok, Err}
use Rattle.laws.specs.Pick.{pick, both, either}
use Rattle.laws.specs.Checks.{first_met, ifDone}
use Rattle.laws.specs.Made.{made}
use Rattle.bcn_spec.specs.Answers.{done, bad_format, short_output, blocks_misfit}
use Rattle.bcn_spec.specs.Bits.{block_size, block_at}
use Rattle.bc6h_spec.specs.Picture.{is_signed}
use Rattle.bc6h_spec.specs.Block.{pixels_of}
use Rattle.bc6_blocks.specs.Run.{run_infinities}
use Rattle.bcn_spec.specs.declared.Refusal.{Refusal}
use Rattle.bcn_spec.specs.Refusals.{refusal_number}

-- ---- the layouts: red, green and blue; and the same with alpha behind them

-- the values of a pixel
abbrev pub lanes : Bool → ℕ
lanes alpha = pick alpha 4 3

-- the alpha of every pixel: 1.0
abbrev pub opaque : ℕ
opaque = 0x3C00

-- value c of pixel k, from the 48 values of a block
unfoldable pub lane_of : List ℕ → ℕ → ℕ → ℕ
lane_of values k c = pick (ltb c 3) (get_or values (3 * k + c) 0) opaque

-- value c of pixel (x, y) of a face of blocks in row order, `width` of them a row; row 0 on top
unfoldable pub lane_at : Bool → List ℕ → ℕ → ℕ → ℕ → ℕ → ℕ
lane_at signed blocks width x y c = lane_of (pixels_of signed (block_at blocks (width * (y / 4) + x / 4))) (4 * (y % 4) + x % 4) c

-- ---- the lent values

-- the values of a row of pixels
abbrev pub row_size : Bool → ℕ → ℕ
row_size alpha width = lanes alpha * (4 * width)

-- In words: value c of pixel (x, y) stands at pitch y + lanes x + c, and every other value is as it was.
pub record FaceShown (signed alpha : Bool) (blocks : List ℕ) (width height pitch : ℕ) (out after : List ℕ) : Type 0 where
  pub long : length after ≡ length out
  pub pixel : (x y c : ℕ) → x < 4 * width → y < 4 * height → c < lanes alpha
      → get_or after (pitch * y + (lanes alpha * x + c)) 0 ≡ lane_at signed blocks width x y c
  pub rest : (i : ℕ) → i < length out
      → ((x y c : ℕ) → x < 4 * width → y < 4 * height → c < lanes alpha → i ≡ pitch * y + (lanes alpha * x + c) → ⊥)
      → get_or after i 0 ≡ get_or out i 0

-- The same, computed: row i div pitch has value i, which is a pixel's where the row is the face's and i mod pitch below a row's values.
unfoldable pub in_face : Bool → ℕ → ℕ → ℕ → ℕ → Bool
in_face alpha width height pitch i = both (ltb (i / pitch) (4 * height)) (ltb (i % pitch) (row_size alpha width))

unfoldable pub image_value : Bool → Bool → List ℕ → ℕ → ℕ → ℕ → List ℕ → ℕ → ℕ
image_value signed alpha blocks width height pitch out i =
    pick (in_face alpha width height pitch i)
    (lane_at signed blocks width (i % pitch / lanes alpha) (i / pitch) (i % pitch % lanes alpha))
    (get_or out i 0)

unfoldable pub image_in : Bool → Bool → List ℕ → ℕ → ℕ → ℕ → List ℕ → List ℕ
image_in signed alpha blocks width height pitch out = made (image_value signed alpha blocks width height pitch out) (length out)

-- ---- the call

-- a pitch of a row's values or more, and room down to the last value of the last row; a face without a block needs neither
unfoldable pub roomy : Bool → ℕ → ℕ → ℕ → ℕ → Bool
roomy alpha width height pitch room =
    either (eqb (width * height) 0)
    (both (leb (row_size alpha width) pitch) (leb (pitch * (4 * height - 1) + row_size alpha width) room))

-- 1, then 15, then 3
unfoldable pub image_refusal : Bool → ℕ → ℕ → ℕ → ℕ → ℕ → ℕ → ℕ
image_refusal alpha size format width height pitch room =
    first_met ((ltb 1 format, bad_format) ∷ (not (eqb size (block_size * (width * height))), blocks_misfit) ∷ (not (roomy alpha width height pitch room), short_output) ∷ [])

-- a number, and how many values are 0xFC00
pub record FacePixels : Type 0 where
  pub answer : ℕ
  pub infinite : ℕ

-- what a result stands for
abbrev pub told : Result ℕ Refusal → FacePixels
told (Ok infinite) = record { answer = done; infinite = infinite }
told (Err refusal) = record { answer = refusal_number refusal; infinite = 0 }

-- how many values are minus infinity, as the call over a run of the same blocks counts them; a refusal counts none
abbrev pub image_answer : ℕ → List ℕ → ℕ → FacePixels
image_answer zero blocks format = record { answer = done; infinite = run_infinities format blocks }
image_answer (suc n) blocks format = record { answer = suc n; infinite = 0 }

-- a refusal writes nothing
abbrev pub image_values : ℕ → Bool → List ℕ → ℕ → ℕ → ℕ → ℕ → List ℕ → List ℕ
image_values number alpha blocks format width height pitch out = ifDone number (image_in (is_signed format) alpha blocks width height pitch out) out

-- The statement of the calls: the answer r, and the lent values `after`.
pub record ImagePainted (alpha : Bool) (blocks : List ℕ) (width height format : ℕ) (out : List ℕ) (pitch : ℕ) (r : FacePixels) (after : List ℕ) : Type 0 where
  pub answers : r ≡ image_answer (image_refusal alpha (length blocks) format width height pitch (length out)) blocks format
  pub holds : after ≡ image_values (image_refusal alpha (length blocks) format width height pitch (length out)) alpha blocks format width height pitch out
