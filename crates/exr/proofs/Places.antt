-- Where a value stands: channel `channel` (0 red, 1 green, 2 blue) of pixel (x, y), row 0 on top. Assumes nothing.
use mathlib.Core.Path.{◌≡◌, refl, sym, ap, ◌∙◌}
use mathlib.Core.List.{List, [], ◌++◌, append-nil, append_assoc}
use Prim.Native.Nat.{ℕ, zero, suc, ◌+◌, ◌-◌, ◌*◌, ◌/◌, ◌≤◌, ◌<◌}
use native.Mathlib.Nat.{mul_comm, mul-le-mul_right}
use native.Mathlib.Omega.{arith}
use lib.ListN.{length, take, drop}
use lib.Seq.{drop-drop, drop_at}
use Rattle.laws.proofs.Joined.{run_at_lem}
use Rattle.laws.proofs.Taken.{part_of_part}
use Rattle.laws.specs.Bit.{low_bytes}
use Rattle.bcn_spec.specs.Answers.{done}
use Rattle.exr_header.specs.Header.{header_length, line_length, front_length, line_start, start_bytes, table_of, header_of, front_of}
use Rattle.exr_header.proofs.Numbers.{header_length_lem, front_length_is, start_length}
use Rattle.exr.specs.declared.ExrWritten.{ExrWritten}
use Rattle.exr.specs.File.{pattern_at, half_at, channel_at, head_of, values_at, line_at, lines_of, file_in, PictureWritten}
use Rattle.exr.proofs.Bands.{length_head}
use Rattle.exr.proofs.Whole.{length_half, length_channel, length_line}
use Rattle.exr.proofs.Calls.{written_file}

-- the channels of a line stand behind its head, blue first
module _ (head blue green red : List ℕ) (n : ℕ) (h : length head ≡ 8) (b : length blue ≡ n) (g : length green ≡ n) where
  pub behind_head : drop 8 (head ++ (blue ++ (green ++ red))) ≡ blue ++ (green ++ red)
  behind_head = drop_at head (blue ++ (green ++ red)) 8 h

  pub behind_blue : drop (8 + n) (head ++ (blue ++ (green ++ red))) ≡ green ++ red
  behind_blue = sym (drop-drop n 8 (head ++ (blue ++ (green ++ red)))) ∙ ap (drop n) behind_head ∙ drop_at blue (green ++ red) n b

  pub behind_green : drop (8 + n + n) (head ++ (blue ++ (green ++ red))) ≡ red
  behind_green = sym (drop-drop n (8 + n) (head ++ (blue ++ (green ++ red)))) ∙ ap (drop n) behind_blue ∙ drop_at green red n g

module _ (blocks : List ℕ) (format across width y : ℕ) where
  line_blue : drop 8 (line_at blocks format across width y) ≡ values_at blocks format across width y
  unfolding line_at
  line_blue =
      behind_head (head_of width y) (channel_at blocks format across width 2 y) (channel_at blocks format across width 1 y) (channel_at blocks format across width 0 y) (2 * width)
      (length_head width y) (length_channel blocks format across width 2 y) (length_channel blocks format across width 1 y)

  line_green : drop (8 + 2 * width) (line_at blocks format across width y) ≡ channel_at blocks format across width 1 y ++ channel_at blocks format across width 0 y
  unfolding line_at
  line_green =
      behind_blue (head_of width y) (channel_at blocks format across width 2 y) (channel_at blocks format across width 1 y) (channel_at blocks format across width 0 y) (2 * width)
      (length_head width y) (length_channel blocks format across width 2 y) (length_channel blocks format across width 1 y)

  line_red : drop (8 + 2 * width + 2 * width) (line_at blocks format across width y) ≡ channel_at blocks format across width 0 y
  unfolding line_at
  line_red =
      behind_green (head_of width y) (channel_at blocks format across width 2 y) (channel_at blocks format across width 1 y) (channel_at blocks format across width 0 y) (2 * width)
      (length_head width y) (length_channel blocks format across width 2 y) (length_channel blocks format across width 1 y)

  module _ (x : ℕ) (hx : x < width) where
    in_channel : (channel : ℕ) (rest : List ℕ) → take 2 (drop (2 * x) (channel_at blocks format across width channel y ++ rest)) ≡ half_at blocks format across channel y x
    unfolding channel_at
    in_channel channel rest = run_at_lem (half_at blocks format across channel y) 2 (length_half blocks format across channel y) width x rest hx

    -- `before` channels stand before this one in the line
    in_line : (before : ℕ) → before < 3 → take 2 (drop (8 + 2 * (before * width + x)) (line_at blocks format across width y)) ≡ half_at blocks format across (2 - before) y x
    in_line zero h =
        let at : 8 + 2 * (0 * width + x) ≡ 8 + 2 * x = omega arith in
        ap (λ (n : ℕ). take 2 (drop n (line_at blocks format across width y))) at
        ∙ ap (take 2) (sym (drop-drop (2 * x) 8 (line_at blocks format across width y)) ∙ ap (drop (2 * x)) line_blue) ∙ in_channel 2 _
    in_line (suc zero) h =
        let at : 8 + 2 * (1 * width + x) ≡ 8 + 2 * width + 2 * x = omega arith in
        ap (λ (n : ℕ). take 2 (drop n (line_at blocks format across width y))) at
        ∙ ap (take 2) (sym (drop-drop (2 * x) (8 + 2 * width) (line_at blocks format across width y)) ∙ ap (drop (2 * x)) line_green) ∙ in_channel 1 _
    in_line (suc (suc zero)) h =
        let at : 8 + 2 * (2 * width + x) ≡ 8 + 2 * width + 2 * width + 2 * x = omega arith in
        ap (λ (n : ℕ). take 2 (drop n (line_at blocks format across width y))) at
        ∙ ap (take 2) (sym (drop-drop (2 * x) (8 + 2 * width + 2 * width) (line_at blocks format across width y)) ∙ ap (drop (2 * x)) (line_red ∙ sym (append-nil (channel_at blocks format across width 0 y)))) ∙ in_channel 0 []
    in_line (suc (suc (suc n))) h = absurd (omega arith)

module _ (blocks : List ℕ) (format across width height y : ℕ) (hy : y < height) where
  -- line y of the file begins where the table says
  pub line_place : take (line_length width) (drop (line_start width height y) (file_in blocks format across width height)) ≡ line_at blocks format across width y
  unfolding file_in lines_of line_start
  line_place =
      let body = lines_of blocks format across width height in
      let n = line_length width in
      ap (take n)
      (sym (drop-drop (y * n) (front_length height) (front_of width height ++ body)) ∙ ap (drop (y * n)) (drop_at (front_of width height) body (front_length height) (front_length_is width height)))
      ∙ ap (λ (k : ℕ). take n (drop k body)) (mul_comm y n)
      ∙ ap (λ (t : List ℕ). take n (drop (n * y) t)) (sym (append-nil body))
      ∙ run_at_lem (line_at blocks format across width) n (length_line blocks format across width) height y [] hy

  -- entry y of the table: where line y begins, in 8 bytes
  pub table_place : take 8 (drop (header_length + 8 * y) (file_in blocks format across width height)) ≡ low_bytes 8 (line_start width height y)
  unfolding file_in front_of table_of start_bytes
  table_place =
      let table = table_of width height in
      let body = lines_of blocks format across width height in
      let h = header_of width height in
      ap (λ (t : List ℕ). take 8 (drop (header_length + 8 * y) t)) (append_assoc h table body)
      ∙ ap (take 8) (sym (drop-drop (8 * y) header_length (h ++ (table ++ body))) ∙ ap (drop (8 * y)) (drop_at h (table ++ body) header_length (header_length_lem width height)))
      ∙ run_at_lem (start_bytes width height) 8 (start_length width height) height y body hy

  module _ (x : ℕ) (hx : x < width) where
    -- Channel c of pixel (x, y): the pattern's two bytes.
    pub pixel_place : (channel : ℕ) → channel < 3
        → take 2 (drop (line_start width height y + (8 + 2 * ((2 - channel) * width + x))) (file_in blocks format across width height))
        ≡ low_bytes 2 (pattern_at blocks format across channel y x)
    unfolding half_at line_length
    pixel_place channel h =
        let file = file_in blocks format across width height in
        let b = 2 - channel in
        let place = 8 + 2 * (b * width + x) in
        let few : b * width ≤ 2 * width = mul-le-mul_right width (omega arith) in
        let inside : place + 2 ≤ line_length width = (let e : line_length width ≡ 8 + 6 * width = refl in omega arith) in
        let back : 2 - b ≡ channel = omega arith in
        sym (part_of_part file (line_start width height y) place (line_length width) 2 inside)
        ∙ ap (λ (t : List ℕ). take 2 (drop place t)) line_place
        ∙ in_line blocks format across width y x hx b (omega arith)
        ∙ ap (λ (c : ℕ). half_at blocks format across c y x) back

-- and in what the call leaves, where it is done: exactly the bytes that it counts
pub pixel_written : {blocks : List ℕ} {format width height : ℕ} {out after : List ℕ} {r : ExrWritten} → PictureWritten blocks format width height out r after
    → r.answer ≡ done → (x y channel : ℕ) → x < width → y < height → channel < 3
    → take 2 (drop (line_start width height y + (8 + 2 * ((2 - channel) * width + x))) (take r.bytes after))
    ≡ low_bytes 2 (pattern_at blocks format (width / 4) channel y x)
pixel_written {blocks} {format} {width} {height} w z x y channel hx hy hc =
    ap (λ (t : List ℕ). take 2 (drop (line_start width height y + (8 + 2 * ((2 - channel) * width + x))) t)) (written_file w z)
    ∙ pixel_place blocks format (width / 4) width height y hy x hx channel hc
