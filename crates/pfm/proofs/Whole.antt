-- The bytes that are written, row of blocks by row of blocks, are the rows of the file. Assumes nothing.
use mathlib.Core.Path.{◌≡◌, ◌∙◌, refl, sym, ap}
use mathlib.Core.List.{List, ◌++◌}
use Prim.Native.Nat.{ℕ, ◌+◌, ◌-◌, ◌*◌, ◌/◌, ◌%◌, ◌<◌}
use native.Mathlib.Nat.{mul_comm}
use native.Mathlib.Omega.{arith}
use lib.ListN.{length}
use Rattle.laws.specs.Made.{join}
use Rattle.laws.proofs.Rows.{made-same}
use Rattle.bc6h_spec.specs.Picture.{is_signed}
use Rattle.bc6h_spec.specs.Block.{pixels_of}
use Rattle.bcn_spec.specs.Bits.{block_at}
use Rattle.pfm.specs.File.{pixel_bytes, pixel_at, row_at, row_up, body_of}
use Rattle.pfm.specs.Bands.{cell_at, line_at, band_at, band_up, bands_of}
use Rattle.laws.proofs.Joined.{run_fours, run_length}
use Rattle.pfm.proofs.Bands.{length_pixel, quarter_pixels}

module _ (blocks : List ℕ) (format across : ℕ) where
  -- pixel i of the four that block b shows in row 4 d + row
  pixel_in : (d row k i : ℕ) → row < 4 → i < 4
      → pixel_at blocks format across (4 * d + row) (4 * k + i) ≡ pixel_bytes (pixels_of (is_signed format) (block_at blocks (across * d + k))) (4 * row + i)
  unfolding pixel_at
  pixel_in d row k i hr hi =
      let yd : (4 * d + row) / 4 ≡ d = omega arith in
      let ym : (4 * d + row) % 4 ≡ row = omega arith in
      let xd : (4 * k + i) / 4 ≡ k = omega arith in
      let xm : (4 * k + i) % 4 ≡ i = omega arith in
      rw (yd, ym, xd, xm, mul_comm d across)

  cell_fours : (d row k : ℕ) → row < 4
      → cell_at blocks format (across * d) row k
      ≡ pixel_at blocks format across (4 * d + row) (4 * k)
      ++ (pixel_at blocks format across (4 * d + row) (4 * k + 1) ++ (pixel_at blocks format across (4 * d + row) (4 * k + 2) ++ pixel_at blocks format across (4 * d + row) (4 * k + 3)))
  unfolding cell_at
  cell_fours d row k h =
      let zero_more : (n : ℕ) → n + 0 ≡ n = λ n. omega arith in
      let first : pixel_at blocks format across (4 * d + row) (4 * k) ≡ pixel_bytes (pixels_of (is_signed format) (block_at blocks (across * d + k))) (4 * row) =
      ap (pixel_at blocks format across (4 * d + row)) (sym (zero_more (4 * k))) ∙ pixel_in d row k 0 h (omega arith)
      ∙ ap (pixel_bytes (pixels_of (is_signed format) (block_at blocks (across * d + k)))) (zero_more (4 * row)) in
      rw (first, pixel_in d row k 1 h (omega arith), pixel_in d row k 2 h (omega arith), pixel_in d row k 3 h (omega arith))
      (quarter_pixels (pixels_of (is_signed format) (block_at blocks (across * d + k))) row h)

  -- a row of pixels is a row of a row of blocks
  row_line : (d row : ℕ) → row < 4 → row_at blocks format across (4 * across) (4 * d + row) ≡ line_at blocks format (across * d) across row
  unfolding row_at line_at
  row_line d row h =
      run_fours (pixel_at blocks format across (4 * d + row)) (cell_at blocks format (across * d) row) (λ k. cell_fours d row k h) across

-- file rows are counted from the bottom
module _ (blocks : List ℕ) (format across down : ℕ) where
  up_line : (n i : ℕ) → n < down → i < 4 → row_up blocks format across (4 * across) (4 * down) (4 * n + i) ≡ line_at blocks format (across * (down - 1 - n)) across (3 - i)
  unfolding row_up
  up_line n i h l =
      let y : 4 * down - 1 - (4 * n + i) ≡ 4 * (down - 1 - n) + (3 - i) = omega arith in
      ap (row_at blocks format across (4 * across)) y ∙ row_line blocks format across (down - 1 - n) (3 - i) (omega arith)

  four_rows : ℕ → List ℕ
  four_rows n =
      row_up blocks format across (4 * across) (4 * down) (4 * n)
      ++ (row_up blocks format across (4 * across) (4 * down) (4 * n + 1) ++ (row_up blocks format across (4 * across) (4 * down) (4 * n + 2) ++ row_up blocks format across (4 * across) (4 * down) (4 * n + 3)))

  up_band : (n : ℕ) → n < down → four_rows n ≡ band_up blocks format across down n
  unfolding band_up band_at four_rows
  up_band n h =
      let zero_more : 4 * n ≡ 4 * n + 0 = omega arith in
      let first : row_up blocks format across (4 * across) (4 * down) (4 * n) ≡ line_at blocks format (across * (down - 1 - n)) across 3 =
      ap (row_up blocks format across (4 * across) (4 * down)) zero_more ∙ up_line n 0 h (omega arith) in
      rw (first, up_line n 1 h (omega arith), up_line n 2 h (omega arith), up_line n 3 h (omega arith))

  -- what is written row of blocks by row of blocks is the file's body
  pub body_bands : body_of blocks format across (4 * across) (4 * down) ≡ bands_of blocks format across down
  unfolding body_of bands_of four_rows
  body_bands =
      run_fours (row_up blocks format across (4 * across) (4 * down)) four_rows (λ k. refl) down ∙ ap join (made-same four_rows (band_up blocks format across down) down up_band)

-- ---- lengths

pub length_at : (blocks : List ℕ) (format across y x : ℕ) → length (pixel_at blocks format across y x) ≡ 12
unfolding pixel_at
length_at blocks format across y x = length_pixel _ _

pub length_row : (blocks : List ℕ) (format across width height i : ℕ) → length (row_up blocks format across width height i) ≡ 12 * width
unfolding row_up row_at
length_row blocks format across width height i =
    run_length (pixel_at blocks format across (height - 1 - i)) 12 (length_at blocks format across (height - 1 - i)) width

pub length_body : (blocks : List ℕ) (format across width height : ℕ) → length (body_of blocks format across width height) ≡ 12 * width * height
unfolding body_of
length_body blocks format across width height =
    run_length (row_up blocks format across width height) (12 * width) (length_row blocks format across width height) height
