-- The values of a face that was painted: none is a NaN, and its file is that of the face. Assumes nothing.
use mathlib.Core.Path.{◌≡◌, refl, sym, ap, ◌∙◌}
use mathlib.Core.List.{List, ◌++◌}
use Prim.Native.Nat.{ℕ, ◌+◌, ◌-◌, ◌*◌, ◌/◌, ◌%◌, ◌≤◌, ◌<◌}
use native.Mathlib.Nat.{mul_assoc, mul_comm, mod-lt, div-lt_iff_lt-mul, div-add-mod'}
use native.Mathlib.Omega.{arith}
use lib.ListN.{length, get_or, drop, replicate, length-take, length-drop, get_or-append}
use Rattle.laws.proofs.Rows.{get_d_made}
use Rattle.bcn_spec.specs.Answers.{done}
use Rattle.bc6h_spec.specs.Picture.{is_signed}
use Rattle.bc6h_spec.specs.Block.{pixels_of}
use Rattle.bc6.specs.Call.{refusal_of, answer_at, values_at, Painted}
use Rattle.bc6_blocks.proofs.Decoded.{decoded}
use Rattle.pfm_floats.specs.Bytes.{Numbers}
use Rattle.pfm.specs.File.{colour_at}
use Rattle.pfm.specs.Bands.{colours_of, no_colour}
use Rattle.pfm.proofs.Bands.{decoded_numbers}
use Rattle.probe_places.specs.declared.Fault.{Fault}
use Rattle.probe_places.specs.Places.{places_in, face_count, format_in, block_in}
use Rattle.probe_places.proofs.Checks.{fine}
use Rattle.probe.specs.Probe.{place_of, IsProbe, probe_fault, record_for, shown_in, triple_of, triple_at, triple_for}
use Rattle.probe.proofs.Checking.{then_done}
use Rattle.probe.proofs.Probes.{for_inside, place_filled}
use Rattle.probe_faces.specs.Face.{face_of, face_refusal, face_fault, FacePainted}
use Rattle.probe_faces.proofs.Painting.{face_length, roomy, done_probe, pixel_same}
use Rattle.exr_square.specs.Square.{square_file}
use Rattle.exr_square.proofs.Squares.{same_square}
use Rattle.text_probe.specs.Image.{PixelsNumbers, image_file}
use Rattle.text_probe.proofs.Images.{same_file}

-- ---- a block's sixteen pixels

block_numbers : (format : ℕ) (block : List ℕ) → format ≤ 1 → length block ≡ 16 → (k : ℕ) → k < 16 → Numbers (colour_at (pixels_of (is_signed format) block) k)
unfolding colours_of
block_numbers format block f sixteen k h =
    let out : List ℕ = replicate 48 0 in
    let number : ℕ = refusal_of format (length block) 48 in
    let p : Painted block format out (answer_at number block format) (values_at number block format out) = record { answers = refl; holds = refl } in
    let shown = decoded p f sixteen refl in
    let n : Numbers (get_or (colours_of (values_at number block format out)) k no_colour) = (decoded_numbers p f sixteen refl refl).each k h in
    rw (get_d_made (colour_at (values_at number block format out)) 16 k no_colour h, shown) at n

-- ---- a pixel of a face

module _ {store : List ℕ} {edge face : ℕ} {lent after : List ℕ} {r : Fault} (d : FacePainted store edge face lent r after) (z : r.answer ≡ done) where
  abbrev side : ℕ
  side = 4 * edge

  probe : IsProbe store edge
  probe = done_probe d z

  unrefused : (face_fault store edge face (length lent)).answer ≡ done
  unrefused = sym (ap (λ (x : Fault). x.answer) d.answers) ∙ z

  on_face : face < face_count
  unfolding face_fault
  on_face = (roomy edge face (length lent) (then_done (probe_fault store edge) (face_refusal edge face (length lent)) unrefused).1).on_face

  module _ (k : ℕ) (h : k < side * side) where
    x : ℕ
    x = k % side

    y : ℕ
    y = k / side

    n : ℕ
    n = record_for store (place_of face (x / 4) (y / 4))

    pixel : ℕ
    pixel = 4 * (y % 4) + x % 4

    inside_x : x < side
    unfolding x
    inside_x = mod-lt k (let p = probe.edge_first in omega arith)

    inside_y : y < side
    unfolding y
    inside_y = (div-lt_iff_lt-mul {k = side} {x = k} {y = side} (let p = probe.edge_first in omega arith)).1 h

    pixel_few : pixel < 16
    unfolding pixel
    pixel_few = omega arith

    -- S-57: the triple of the right block
    value_here : (c : ℕ) → c < 3 → get_or after (3 * k + c) 0 ≡ get_or (triple_of (shown_in store n) pixel) c 0
    unfolding triple_for triple_at n pixel x y
    value_here c hc =
        let w : y * side + x ≡ k = div-add-mod' k side in
        let a : 12 * edge * y ≡ 12 * (edge * y) = mul_assoc 12 edge y in
        let b : 4 * edge * y ≡ 4 * (edge * y) = mul_assoc 4 edge y in
        let s : y * side ≡ 4 * edge * y = mul_comm y side in
        let place : 3 * k + c ≡ 12 * edge * y + (3 * x + c) = omega arith in
        ap (λ (i : ℕ). get_or after i 0) place ∙ pixel_same d z x y c inside_x inside_y hc

    colour_here : colour_at after k ≡ colour_at (shown_in store n) pixel
    colour_here =
        let first : get_or after (3 * k) 0 ≡ get_or (shown_in store n) (3 * pixel) 0 =
        ap (λ (i : ℕ). get_or after i 0) (let e : 3 * k ≡ 3 * k + 0 = omega arith in e) ∙ value_here 0 (omega arith) in
        rw (first, value_here 1 (omega arith), value_here 2 (omega arith))

    record_inside : n < places_in store
    unfolding n
    record_inside =
        for_inside store (place_of face (x / 4) (y / 4))
        (place_filled probe face (x / 4) (y / 4) on_face (let a = inside_x in omega arith) (let a = inside_y in omega arith))

    pub number_here : Numbers (colour_at after k)
    unfolding shown_in block_in
    number_here =
        let i : n < places_in store = record_inside in
        rw colour_here
        (block_numbers (format_in store n) (block_in store n) (fine store n (probe.unrefused n i)).small (simp (length-take, length-drop) (omega arith))
        pixel pixel_few)

  pub all_numbers : PixelsNumbers after (side * side)
  all_numbers = record { each = number_here }

  -- ---- the file

  whole : after ≡ face_of store edge face ++ drop (length (face_of store edge face)) lent
  whole = rw unrefused at d.holds

  front : (i : ℕ) → i < 48 * edge * edge → get_or after i 0 ≡ get_or (face_of store edge face) i 0
  front i h =
      let size = face_length store edge face in
      ap (λ (t : List ℕ). get_or t i 0) whole ∙ get_or-append (face_of store edge face) _ 0 i (omega arith)

  -- three values a pixel
  all_values : 3 * (side * side) ≡ 48 * edge * edge
  all_values =
      let a : 4 * edge * (4 * edge) ≡ 4 * (edge * (4 * edge)) = mul_assoc 4 edge (4 * edge) in
      let b : edge * (4 * edge) ≡ 4 * edge * edge = mul_comm edge (4 * edge) in
      let c : 4 * edge * edge ≡ 4 * (edge * edge) = mul_assoc 4 edge edge in
      let e : 48 * edge * edge ≡ 48 * (edge * edge) = mul_assoc 48 edge edge in
      omega arith

  pub map_shown : image_file after side ≡ image_file (face_of store edge face) side
  map_shown =
      let p = probe.edge_first in
      same_file after (face_of store edge face) side (omega arith) same
    where
      same : (k : ℕ) → k < side * side → colour_at after k ≡ colour_at (face_of store edge face) k
      same k h =
          let e = all_values in
          rw (front (3 * k) (omega arith), front (3 * k + 1) (omega arith), front (3 * k + 2) (omega arith))

  pub exr_shown : square_file after side ≡ square_file (face_of store edge face) side
  exr_shown = same_square after (face_of store edge face) side (λ i h. front i (omega (arith, h, all_values)))
