-- The pieces of the rows of blocks, one after the other, are the file. Assumes nothing.
use mathlib.Core.Path.{◌≡◌, ◌∙◌, sym, ap, ap₂}
use mathlib.Core.List.{List, ◌++◌}
use Prim.Native.Nat.{ℕ, ◌+◌, ◌-◌, ◌*◌, ◌/◌, ◌%◌, ◌≤◌, ◌<◌, min}
use native.Mathlib.Omega.{arith}
use lib.ListN.{take, drop}
use Rattle.laws.specs.Made.{made, join}
use Rattle.laws.proofs.Rows.{made-same}
use Rattle.bcn_spec.specs.Bits.{block_at}
use Rattle.bc6h_spec.specs.Picture.{is_signed}
use Rattle.bc6h_spec.specs.Block.{pixels_of}
use Rattle.dds.specs.Dds.{blocks_along}
use Rattle.pfm_header.specs.Header.{header_of}
use Rattle.pfm.specs.File.{pixel_bytes, pixel_at, row_at, row_up, body_of, file_in, file_of}
use Rattle.laws.proofs.Taken.{part_of_part}
use Rattle.pfm_bands.specs.Bands.{picture_of, band_in, rows_in, from_bottom, piece_up}
use Rattle.pfm_bands.proofs.Runs.{behind, run_pieces}

-- ---- a row of blocks by itself

-- block k of row of blocks d
band_block : (blocks : List ℕ) (across d k : ℕ) → k < across → block_at (band_in blocks across d) k ≡ block_at blocks (d * across + k)
band_block blocks across d k h =
    let place : 16 * across * d + 16 * k ≡ 16 * (d * across + k) = omega arith in
    part_of_part blocks (16 * across * d) (16 * k) (16 * across) 16 (omega arith) ∙ ap (λ (n : ℕ). take 16 (drop n blocks)) place

-- the block of pixel (x, row) there, in the picture
pub band_place : (blocks : List ℕ) (across d row x : ℕ) → row < 4 → x < 4 * across
    → block_at (band_in blocks across d) (row / 4 * across + x / 4) ≡ block_at blocks ((4 * d + row) / 4 * across + x / 4)
band_place blocks across d row x h l =
    let zero_row : row / 4 ≡ 0 = omega arith in
    let same_row : (4 * d + row) / 4 ≡ d = omega arith in
    let top : 0 * across + x / 4 ≡ x / 4 = omega arith in
    rw (zero_row, same_row) (ap (block_at (band_in blocks across d)) top ∙ band_block blocks across d (x / 4) (omega arith))

-- its rows are those of the picture from row 4 d on
band_row : (blocks : List ℕ) (format across width d row : ℕ) → row < 4 → width ≤ 4 * across
    → row_at (band_in blocks across d) format across width row ≡ row_at blocks format across width (4 * d + row)
unfolding row_at pixel_at
band_row blocks format across width d row h w =
    let same : (4 * d + row) % 4 ≡ row % 4 = omega arith in
    ap join (made-same (pixel_at (band_in blocks across d) format across row) (pixel_at blocks format across (4 * d + row)) width
    (λ x l.
    ap₂ (λ (b : List ℕ) (k : ℕ). pixel_bytes (pixels_of (is_signed format) b) (4 * k + x % 4)) (band_place blocks across d row x h (omega arith)) (sym same)))

-- ---- all of them

-- rows above, rows of one row of blocks and rows below it
rows_more : (height d : ℕ) → height - 4 * d ≡ height - 4 * (d + 1) + min 4 (height - 4 * d)
rows_more height d = omega arith

row_number : (height d rows start i : ℕ) → start + rows + 4 * d ≡ height → i < rows → 4 * d + (rows - 1 - i) ≡ height - 1 - (start + i)
row_number height d rows start i e h = omega arith

back_one : (down n : ℕ) → n < down → down - n ≡ down - 1 - n + 1
back_one down n h = omega arith

back_more : (down n : ℕ) → down - (n + 1) ≡ down - 1 - n
back_more down n = omega arith

back_low : (height n : ℕ) → n < blocks_along height → 4 * from_bottom height n ≤ height
back_low height n h = omega arith

rows_few : (height d i : ℕ) → i < min 4 (height - 4 * d) → min 4 (height - 4 * d) - 1 - i < 4
rows_few height d i h = omega arith

-- how many rows of the file stand before those of row of blocks n
rows_before : (height n : ℕ) → n < blocks_along height
    → height - 4 * (blocks_along height - n) + rows_in height (from_bottom height n) + 4 * from_bottom height n ≡ height
rows_before height n h =
    let d = from_bottom height n in
    let low : 4 * d ≤ height = back_low height n h in
    ap (λ (k : ℕ). height - 4 * k + rows_in height d + 4 * d) (back_one (blocks_along height) n h)
    ∙ ap (λ (k : ℕ). k + 4 * d) (sym (rows_more height d)) ∙ lift height (4 * d) low
  where
    lift : (a b : ℕ) → b ≤ a → a - b + b ≡ a
    lift a b h = omega arith

rows_next : (height n : ℕ) → n < blocks_along height
    → height - 4 * (blocks_along height - (n + 1)) ≡ height - 4 * (blocks_along height - n) + rows_in height (from_bottom height n)
rows_next height n h =
    let d = from_bottom height n in
    ap (λ (k : ℕ). height - 4 * k) (back_more (blocks_along height) n) ∙ rows_more height d
    ∙ ap (λ (k : ℕ). height - 4 * k + rows_in height d) (sym (back_one (blocks_along height) n h))

module _ (blocks : List ℕ) (format width height : ℕ) where
  wide : width ≤ 4 * blocks_along width
  wide = omega arith

  piece_rows : (n : ℕ) → n < blocks_along height
      → piece_up blocks format width height n
      ≡ join (made (behind (row_up blocks format (blocks_along width) width height) (height - 4 * (blocks_along height - n))) (rows_in height (from_bottom height n)))
  unfolding piece_up body_of row_up
  piece_rows n h =
      let d = from_bottom height n in
      let rows = rows_in height d in
      let across = blocks_along width in
      ap join (made-same (row_up (band_in blocks across d) format across width rows) (behind (row_up blocks format across width height) (height - 4 * (blocks_along height - n))) rows
      (λ i l.
      band_row blocks format across width d (rows - 1 - i) (rows_few height d i l) wide
      ∙ ap (row_at blocks format across width) (row_number height d rows (height - 4 * (blocks_along height - n)) i (rows_before height n h) l)))

  pub rows_joined : join (made (piece_up blocks format width height) (blocks_along height)) ≡ body_of blocks format (blocks_along width) width height
  unfolding body_of
  rows_joined =
      let all : height - 4 * (blocks_along height - blocks_along height) ≡ height = omega arith in
      run_pieces (row_up blocks format (blocks_along width) width height) (piece_up blocks format width height)
      (λ n. height - 4 * (blocks_along height - n)) (λ n. rows_in height (from_bottom height n)) (omega arith) (blocks_along height)
      (rows_next height) piece_rows
      ∙ ap (λ (n : ℕ). join (made (row_up blocks format (blocks_along width) width height) n)) all

  -- S-98: the header and the pieces in their order are the file
  pub picture_joined : header_of width height ++ join (made (piece_up blocks format width height) (blocks_along height)) ≡ picture_of blocks format width height
  unfolding file_in
  picture_joined = ap (λ (t : List ℕ). header_of width height ++ t) rows_joined

  -- where the width is a multiple of 4, it is the file of the writing call
  pub picture_even : width % 4 ≡ 0 → picture_of blocks format width height ≡ file_of blocks format width height
  picture_even e =
      let same : blocks_along width ≡ width / 4 = omega arith in
      ap (λ (n : ℕ). file_in blocks format n width height) same
