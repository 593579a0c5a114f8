-- The pieces of the rows of blocks, one after the other, are the file. Assumes nothing.
use mathlib.Core.Path.{◌≡◌, ◌∙◌, sym, ap, ap₂}
use mathlib.Core.List.{List, ◌++◌}
use Prim.Native.Nat.{ℕ, ◌+◌, ◌-◌, ◌*◌, ◌/◌, ◌%◌, ◌≤◌, ◌<◌, min}
use native.Mathlib.Omega.{arith}
use lib.ListN.{get_or}
use Rattle.laws.specs.Made.{made, join}
use Rattle.laws.proofs.Rows.{made-same}
use Rattle.laws.specs.Bit.{low_bytes}
use Rattle.bc6h_spec.specs.Picture.{is_signed}
use Rattle.bc6h_spec.specs.Block.{pixels_of}
use Rattle.dds.specs.Dds.{blocks_along}
use Rattle.pfm_bands.specs.Bands.{band_in, rows_in}
use Rattle.pfm_bands.proofs.Runs.{behind, run_pieces}
use Rattle.pfm_bands.proofs.Pieces.{band_place}
use Rattle.exr_header.specs.Header.{front_of}
use Rattle.exr.specs.File.{pattern_at, half_at, channel_at, head_of, line_at, lines_of, file_in, file_of}
use Rattle.exr_bands.specs.Bands.{picture_of, piece_line, piece_of, piece_down}

-- a channel of a row of blocks by itself is that of the picture from line 4 d on
band_channel : (blocks : List ℕ) (format across width channel d row : ℕ) → row < 4 → width ≤ 4 * across
    → channel_at (band_in blocks across d) format across width channel row ≡ channel_at blocks format across width channel (4 * d + row)
unfolding channel_at half_at pattern_at
band_channel blocks format across width channel d row h w =
    let same : (4 * d + row) % 4 ≡ row % 4 = omega arith in
    ap join (made-same (half_at (band_in blocks across d) format across channel row) (half_at blocks format across channel (4 * d + row)) width
    (λ x l.
    ap₂ (λ (b : List ℕ) (k : ℕ). low_bytes 2 (get_or (pixels_of (is_signed format) b) (3 * (4 * k + x % 4) + channel) 0))
    (band_place blocks across d row x h (omega arith)) (sym same)))

module _ (blocks : List ℕ) (format width height : ℕ) where
  piece_lines : (n : ℕ) → n < blocks_along height
      → piece_down blocks format width height n ≡ join (made (behind (line_at blocks format (blocks_along width) width) (min height (4 * n))) (rows_in height n))
  unfolding piece_down piece_of piece_line line_at
  piece_lines n h =
      let across = blocks_along width in
      let rows = rows_in height n in
      let start : min height (4 * n) ≡ 4 * n = omega arith in
      ap join (made-same (piece_line (band_in blocks across n) format across width (4 * n)) (behind (line_at blocks format across width) (min height (4 * n))) rows
      (λ row l.
      let c : (channel : ℕ) → channel_at (band_in blocks across n) format across width channel row ≡ channel_at blocks format across width channel (4 * n + row) =
      λ channel. band_channel blocks format across width channel n row (omega arith) (omega arith) in
      ap (λ (t : List ℕ). head_of width (4 * n + row) ++ t)
      (ap₂ (λ (s t : List ℕ). s ++ t) (c 2) (ap₂ (λ (s t : List ℕ). s ++ t) (c 1) (c 0)))
      ∙ ap (λ (k : ℕ). line_at blocks format across width (k + row)) (sym start)))

  pub lines_joined : join (made (piece_down blocks format width height) (blocks_along height)) ≡ lines_of blocks format (blocks_along width) width height
  unfolding lines_of
  lines_joined =
      let all : min height (4 * blocks_along height) ≡ height = omega arith in
      run_pieces (line_at blocks format (blocks_along width) width) (piece_down blocks format width height) (λ n. min height (4 * n)) (rows_in height) (omega arith) (blocks_along height)
      (λ n h. omega arith) piece_lines
      ∙ ap (λ (n : ℕ). join (made (line_at blocks format (blocks_along width) width) n)) all

  -- S-99: the front and the pieces in their order are the file
  pub picture_joined : front_of width height ++ join (made (piece_down blocks format width height) (blocks_along height)) ≡ picture_of blocks format width height
  unfolding file_in
  picture_joined = ap (λ (t : List ℕ). front_of width height ++ t) lines_joined

  -- where the width is a multiple of 4, it is the file of the writing call
  pub picture_even : width % 4 ≡ 0 → picture_of blocks format width height ≡ file_of blocks format width height
  picture_even e =
      let same : blocks_along width ≡ width / 4 = omega arith in
      ap (λ (n : ℕ). file_in blocks format n width height) same
