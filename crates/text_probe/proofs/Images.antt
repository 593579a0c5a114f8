-- A picture that is stored pixel by pixel, from the lowest row up, is its file. Assumes nothing.
use mathlib.Core.Path.{◌≡◌, refl, sym, ap, ◌∙◌}
use mathlib.Core.List.{List, ◌++◌}
use Prim.Native.Nat.{ℕ, ◌+◌, ◌-◌, ◌*◌, ◌/◌, ◌%◌, ◌≤◌, ◌<◌}
use native.Mathlib.Nat.{mod-lt, div-lt_iff_lt-mul}
use native.Mathlib.Omega.{arith}
use lib.ListN.{length}
use lib.Seq.{sets}
use Rattle.laws.specs.Made.{made, join}
use Rattle.laws.proofs.Joined.{run_length}
use Rattle.laws.proofs.Rows.{made-same}
use Rattle.pfm_floats.specs.declared.Rgb.{Rgb}
use Rattle.pfm_floats.specs.Bytes.{rgb_bytes}
use Rattle.pfm_header.specs.Header.{header_of, header_length}
use Rattle.pfm_header.specs.Header.{HeaderPut as HeaderWritten}
use Rattle.pfm_header.proofs.Text.{length_header, places_small}
use Rattle.pfm.specs.File.{colour_at, pixel_bytes}
use Rattle.pfm.proofs.Bands.{length_pixel}
use Rattle.probe.proofs.Counting.{digits_below}
use Rattle.text.specs.Text.{Written}
use Rattle.text.proofs.Texts.{then}
use Rattle.exr_square.proofs.Runs.{one_put, all_put}
use Rattle.exr_square.proofs.Squares.{square_few}
use Rattle.text_probe.specs.Image.{pixel_up, image_pixel, image_body, image_file}
use Rattle.text_probe.specs.Output.{output_room}

-- ---- where a pixel of the file stands in the picture

-- its row and column, and that it is inside
pub record Here (side j : ℕ) : Type 0 where
  pub row : j / side < side
  pub column : j % side < side
  pub inside : (side - 1 - j / side) * side + j % side < side * side

pub here : (side j : ℕ) → 1 ≤ side → j < side * side → Here side j
here side j some h =
    let r : j / side < side = (div-lt_iff_lt-mul {k = side} {x = j} {y = side} (omega arith)).1 h in
    let c : j % side < side = mod-lt j (omega arith) in
    record { row = r; column = c; inside = digits_below side (side - 1 - j / side) (j % side) side (omega arith) c }

pub up_is : (side j : ℕ) → (side - 1 - j / side) * side + j % side ≡ pixel_up side j
unfolding pixel_up
up_is side j = refl

pub up_inside : (side j : ℕ) → 1 ≤ side → j < side * side → pixel_up side j < side * side
unfolding pixel_up
up_inside side j some h = (here side j some h).inside

-- ---- the pixels, one after the other

module _ (values : List ℕ) (side : ℕ) where
  pixel_length : (j : ℕ) → length (image_pixel values side j) ≡ 12
  unfolding image_pixel
  pixel_length j = length_pixel values _

  pub pixels_more : (out₀ out : List ℕ) (at j : ℕ) {p : Rgb} {exit : List ℕ} → out ≡ sets out₀ at (join (made (image_pixel values side) j))
      → p ≡ colour_at values (pixel_up side j) → exit ≡ sets out (at + 12 * j) (rgb_bytes p)
      → exit ≡ sets out₀ at (join (made (image_pixel values side) (j + 1)))
  unfolding image_pixel pixel_bytes
  pixels_more out₀ out at j {p} e q w =
      one_put (image_pixel values side) 12 pixel_length out₀ out _ at j e (w ∙ ap (λ (c : Rgb). sets out (at + 12 * j) (rgb_bytes c)) q)

  body_length : length (image_body values side) ≡ 12 * (side * side)
  unfolding image_body
  body_length = run_length (image_pixel values side) 12 pixel_length (side * side)

  pub pixels_done : (out₀ out : List ℕ) (at j : ℕ) → out ≡ sets out₀ at (join (made (image_pixel values side) j)) → j ≤ side * side → side * side ≤ j
      → Written out₀ at (image_body values side) (at + 12 * (side * side)) out
  unfolding image_body
  pixels_done out₀ out at j e h k = all_put (image_pixel values side) 12 pixel_length out₀ out at (side * side) j e h k

-- ---- the header before them

pub header_few : (side : ℕ) → header_length side side ≤ 18
header_few side = let p = places_small side in omega arith

header_text : (side : ℕ) {out m : List ℕ} {at : ℕ} → HeaderWritten out 0 (header_length side side) (header_of side side) at m → Written out 0 (header_of side side) at m
header_text side w = record { next_is = w.next_is ∙ ap (λ (n : ℕ). 0 + n) (sym (length_header side side)); exit_is = w.exit_is }

pub file_written : (values : List ℕ) (side : ℕ) {out m n : List ℕ} {at end : ℕ} → HeaderWritten out 0 (header_length side side) (header_of side side) at m
    → Written m at (image_body values side) end n → side ≤ 64 → (end ≤ output_room) × Written out 0 (image_file values side) end n
unfolding image_file
file_written values side w x h =
    let a = w.next_is in
    let b = x.next_is in
    let l = body_length values side in
    let s = square_few side h in
    let p = header_few side in
    (omega arith, then (header_text side w) x)

-- only the values of the picture count
pub same_file : (values other : List ℕ) (side : ℕ) → 1 ≤ side
    → ((k : ℕ) → k < side * side → colour_at values k ≡ colour_at other k) → image_file values side ≡ image_file other side
unfolding image_file image_body image_pixel pixel_bytes
same_file values other side some e =
    ap (λ (l : List (List ℕ)). header_of side side ++ join l)
    (made-same (image_pixel values side) (image_pixel other side) (side * side) (λ j h. ap rgb_bytes (e (pixel_up side j) (up_inside side j some h))))
