-- The lines that are written, row of blocks by row of blocks, are the lines of the file. Assumes nothing.
use mathlib.Core.Path.{◌≡◌, ◌∙◌, sym, ap, ap₂}
use mathlib.Core.List.{List, ◌++◌}
use Prim.Native.Nat.{ℕ, ◌+◌, ◌*◌, ◌/◌, ◌%◌, ◌<◌}
use native.Mathlib.Nat.{mul_comm}
use native.Mathlib.Omega.{arith}
use lib.ListN.{length, get_or, length-append}
use Rattle.laws.proofs.Joined.{run_fours, run_length}
use Rattle.laws.specs.Bit.{low_bytes}
use Rattle.laws.proofs.Digits.{length_low}
use Rattle.bcn_spec.specs.Bits.{block_at}
use Rattle.bc6h_spec.specs.Picture.{is_signed}
use Rattle.bc6h_spec.specs.Block.{pixels_of}
use Rattle.exr_header.specs.Header.{line_length}
use Rattle.exr.specs.File.{pattern_at, half_at, channel_at, head_of, line_at, lines_of}
use Rattle.exr.specs.Bands.{quarter_of, cell_at, run_at, band_line, band_at, band_of, bands_of}
use Rattle.exr.proofs.Bands.{length_head}

module _ (blocks : List ℕ) (format across : ℕ) where
  -- pixel i of the four that block k of row of blocks d shows in line 4 d + row
  half_in : (channel d row k i : ℕ) → row < 4 → i < 4
      → half_at blocks format across channel (4 * d + row) (4 * k + i)
      ≡ low_bytes 2 (get_or (pixels_of (is_signed format) (block_at blocks (across * d + k))) (3 * (4 * row + i) + channel) 0)
  unfolding half_at pattern_at
  half_in channel d row k i hr hi =
      let yd : (4 * d + row) / 4 ≡ d = omega arith in
      let ym : (4 * d + row) % 4 ≡ row = omega arith in
      let xd : (4 * k + i) / 4 ≡ k = omega arith in
      let xm : (4 * k + i) % 4 ≡ i = omega arith in
      rw (yd, ym, xd, xm, mul_comm d across)

  cell_fours : (channel d row k : ℕ) → row < 4
      → cell_at blocks format (across * d) channel row k
      ≡ half_at blocks format across channel (4 * d + row) (4 * k)
      ++ (half_at blocks format across channel (4 * d + row) (4 * k + 1)
      ++ (half_at blocks format across channel (4 * d + row) (4 * k + 2) ++ half_at blocks format across channel (4 * d + row) (4 * k + 3)))
  unfolding cell_at quarter_of
  cell_fours channel d row k h =
      let v = pixels_of (is_signed format) (block_at blocks (across * d + k)) in
      let zero_more : (n : ℕ) → n + 0 ≡ n = λ n. omega arith in
      let first : half_at blocks format across channel (4 * d + row) (4 * k) ≡ low_bytes 2 (get_or v (3 * (4 * row) + channel) 0) =
      ap (half_at blocks format across channel (4 * d + row)) (sym (zero_more (4 * k))) ∙ half_in channel d row k 0 h (omega arith)
      ∙ ap (λ (n : ℕ). low_bytes 2 (get_or v (3 * n + channel) 0)) (zero_more (4 * row)) in
      rw (first, half_in channel d row k 1 h (omega arith), half_in channel d row k 2 h (omega arith), half_in channel d row k 3 h (omega arith))

  -- a channel of a line is a run of cells
  pub channel_run : (channel d row : ℕ) → row < 4 → channel_at blocks format across (4 * across) channel (4 * d + row) ≡ run_at blocks format (across * d) across channel row
  unfolding channel_at run_at
  channel_run channel d row h =
      run_fours (half_at blocks format across channel (4 * d + row)) (cell_at blocks format (across * d) channel row) (λ k. cell_fours channel d row k h) across

  line_is : (d row : ℕ) → row < 4 → line_at blocks format across (4 * across) (4 * d + row) ≡ band_line blocks format (across * d) across row (4 * d + row)
  unfolding line_at band_line
  line_is d row h =
      ap (λ (t : List ℕ). head_of (4 * across) (4 * d + row) ++ t)
      (ap₂ (λ (s t : List ℕ). s ++ t) (channel_run 2 d row h) (ap₂ (λ (s t : List ℕ). s ++ t) (channel_run 1 d row h) (channel_run 0 d row h)))

  band_lines : (d : ℕ)
      → band_of blocks format across d
      ≡ line_at blocks format across (4 * across) (4 * d)
      ++ (line_at blocks format across (4 * across) (4 * d + 1) ++ (line_at blocks format across (4 * across) (4 * d + 2) ++ line_at blocks format across (4 * across) (4 * d + 3)))
  unfolding band_of band_at
  band_lines d =
      let zero_more : 4 * d + 0 ≡ 4 * d = omega arith in
      let first : line_at blocks format across (4 * across) (4 * d) ≡ band_line blocks format (across * d) across 0 (4 * d) =
      ap (line_at blocks format across (4 * across)) (sym zero_more) ∙ line_is d 0 (omega arith) ∙ ap (band_line blocks format (across * d) across 0) zero_more in
      sym
      (ap₂ (λ (s t : List ℕ). s ++ t) first
      (ap₂ (λ (s t : List ℕ). s ++ t) (line_is d 1 (omega arith)) (ap₂ (λ (s t : List ℕ). s ++ t) (line_is d 2 (omega arith)) (line_is d 3 (omega arith)))))

  -- what is written row of blocks by row of blocks is the file's lines
  pub lines_bands : (down : ℕ) → lines_of blocks format across (4 * across) (4 * down) ≡ bands_of blocks format across down
  unfolding lines_of bands_of
  lines_bands down = run_fours (line_at blocks format across (4 * across)) (band_of blocks format across) band_lines down

-- ---- lengths

pub length_half : (blocks : List ℕ) (format across channel y x : ℕ) → length (half_at blocks format across channel y x) ≡ 2
unfolding half_at
length_half blocks format across channel y x = length_low 2 (pattern_at blocks format across channel y x)

pub length_channel : (blocks : List ℕ) (format across width channel y : ℕ) → length (channel_at blocks format across width channel y) ≡ 2 * width
unfolding channel_at
length_channel blocks format across width channel y = run_length (half_at blocks format across channel y) 2 (length_half blocks format across channel y) width

pub length_line : (blocks : List ℕ) (format across width y : ℕ) → length (line_at blocks format across width y) ≡ line_length width
unfolding line_at line_length
length_line blocks format across width y =
    let c : (channel : ℕ) → length (channel_at blocks format across width channel y) ≡ 2 * width = λ channel. length_channel blocks format across width channel y in
    simp length-append (omega (arith, length_head width y, c 0, c 1, c 2))

pub length_lines : (blocks : List ℕ) (format across width height : ℕ) → length (lines_of blocks format across width height) ≡ line_length width * height
unfolding lines_of
length_lines blocks format across width height =
    run_length (line_at blocks format across width) (line_length width) (length_line blocks format across width) height
