-- Where a pixel stands: pixel (x, y), row 0 on top, at the header's length and 12 · ((height − 1 − y) · width + x). Assumes nothing.
use mathlib.Core.Path.{◌≡◌, sym, ap, ◌∙◌}
use mathlib.Core.List.{List, [], ◌++◌, append-nil}
use Prim.Native.Nat.{ℕ, ◌+◌, ◌-◌, ◌*◌, ◌/◌, ◌%◌, ◌≤◌, ◌<◌}
use native.Mathlib.Nat.{mul_assoc, mul_comm, mul-add}
use native.Mathlib.Omega.{arith}
use lib.ListN.{length, take, drop}
use lib.Seq.{drop-drop, drop_at}
use Rattle.laws.specs.Made.{made, join}
use Rattle.bcn_spec.specs.Answers.{done}
use Rattle.bc6h_spec.specs.Picture.{is_signed}
use Rattle.bc6h_spec.specs.Block.{pixels_of}
use Rattle.bcn_spec.specs.Bits.{block_at}
use Rattle.pfm_header.specs.Header.{header_of, header_length}
use Rattle.pfm_header.proofs.Text.{length_header}
use Rattle.pfm.specs.declared.PfmWritten.{PfmWritten}
use Rattle.pfm.specs.File.{pixel_bytes, pixel_at, row_at, row_up, body_of, file_in, PictureWritten}
use Rattle.laws.proofs.Joined.{run_at_lem}
use Rattle.laws.proofs.Taken.{part_of_part}
use Rattle.pfm.proofs.Whole.{length_at, length_row}
use Rattle.pfm.proofs.Calls.{written_file}

module _ (blocks : List ℕ) (format across width height x y : ℕ) (hx : x < width) (hy : y < height) where
  row_place : 12 * width * (height - 1 - y) + 12 * x ≡ 12 * ((height - 1 - y) * width + x)
  row_place =
      let e : 12 * width * (height - 1 - y) ≡ 12 * ((height - 1 - y) * width) = mul_assoc 12 width (height - 1 - y) ∙ ap (λ (n : ℕ). 12 * n) (mul_comm width (height - 1 - y)) in
      let d : 12 * ((height - 1 - y) * width + x) ≡ 12 * ((height - 1 - y) * width) + 12 * x = mul-add 12 ((height - 1 - y) * width) x in
      omega arith

  back : height - 1 - (height - 1 - y) ≡ y
  back = omega arith

  row_is : take (12 * width) (drop (12 * width * (height - 1 - y)) (body_of blocks format across width height)) ≡ row_at blocks format across width y
  unfolding body_of row_up
  row_is =
      ap (λ (t : List ℕ). take (12 * width) (drop (12 * width * (height - 1 - y)) t)) (sym (append-nil (join (made (row_up blocks format across width height) height))))
      ∙ run_at_lem (row_up blocks format across width height) (12 * width) (length_row blocks format across width height) height (height - 1 - y) [] (omega arith)
      ∙ ap (row_at blocks format across width) back

  pixel_is : take 12 (drop (12 * x) (row_at blocks format across width y)) ≡ pixel_at blocks format across y x
  unfolding row_at
  pixel_is =
      ap (λ (t : List ℕ). take 12 (drop (12 * x) t)) (sym (append-nil (join (made (pixel_at blocks format across y) width))))
      ∙ run_at_lem (pixel_at blocks format across y) 12 (length_at blocks format across y) width x [] hx

  -- in the file
  pub pixel_place : take 12 (drop (header_length width height + 12 * ((height - 1 - y) * width + x)) (file_in blocks format across width height))
      ≡ pixel_bytes (pixels_of (is_signed format) (block_at blocks (y / 4 * across + x / 4))) (4 * (y % 4) + x % 4)
  unfolding file_in pixel_at
  pixel_place =
      let b = body_of blocks format across width height in
      let p = 12 * ((height - 1 - y) * width + x) in
      let w : 12 * x + 12 ≤ 12 * width = omega arith in
      ap (take 12)
      (sym (drop-drop p (header_length width height) (header_of width height ++ b)) ∙ ap (drop p) (drop_at (header_of width height) b (header_length width height) (length_header width height)))
      ∙ ap (λ (n : ℕ). take 12 (drop n b)) (sym row_place)
      ∙ sym (part_of_part b (12 * width * (height - 1 - y)) (12 * x) (12 * width) 12 w)
      ∙ ap (λ (t : List ℕ). take 12 (drop (12 * x) t)) row_is ∙ pixel_is

-- and in what the call leaves, where it is done: exactly the bytes that it counts
pub pixel_written : {blocks : List ℕ} {format width height : ℕ} {out after : List ℕ} {r : PfmWritten} → PictureWritten blocks format width height out r after
    → r.answer ≡ done → (x y : ℕ) → x < width → y < height
    → take 12 (drop (header_length width height + 12 * ((height - 1 - y) * width + x)) (take r.length after))
    ≡ pixel_bytes (pixels_of (is_signed format) (block_at blocks (y / 4 * (width / 4) + x / 4))) (4 * (y % 4) + x % 4)
pixel_written {blocks} {format} {width} {height} w z x y hx hy =
    ap (λ (t : List ℕ). take 12 (drop (header_length width height + 12 * ((height - 1 - y) * width + x)) t)) (written_file w z)
    ∙ pixel_place blocks format (width / 4) width height x y hx hy
