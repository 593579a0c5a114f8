-- A row of blocks: the lengths of its parts, what a block that was decoded gives, and the loop that fills four rows of pixels. Assumes nothing.
use mathlib.Core.Path.{◌≡◌, ◌∙◌, sym, ap, ap₂}
use mathlib.Core.List.{List, [], ◌++◌, append_assoc}
use mathlib.Core.Logic.{⊎_elim}
use Prim.Native.Nat.{ℕ, ◌+◌, ◌-◌, ◌*◌, ◌≤◌, ◌<◌}
use native.Mathlib.Nat.{mul-le-mul, mul-le-mul_left, mul-add, mul_assoc}
use native.Mathlib.Omega.{arith}
use lib.ListN.{length, get_or, take, drop, length-append, length-drop, take-append-drop}
use lib.Seq.{sets, drop-drop, length-take-le}
use Rattle.laws.specs.Made.{made, join}
use Rattle.laws.proofs.Tests.{cases}
use Rattle.bc6h_spec.specs.Picture.{is_signed}
use Rattle.bc6h_spec.specs.Block.{pixels_of}
use Rattle.bc6.specs.Call.{Pixels}
use Rattle.bc6.specs.Call.{Painted}
use Rattle.bc6.proofs.Values.{unsigned_highest, signed_highest}
use Rattle.bcn_spec.specs.Bits.{block_at}
use Rattle.bc6_blocks.proofs.Decoded.{decoding_done}
use Rattle.pfm_floats.specs.declared.Rgb.{Rgb}
use Rattle.pfm_floats.specs.Half.{IsNumber}
use Rattle.pfm_floats.specs.Bytes.{rgb_bytes}
use Rattle.pfm_floats.proofs.Exact.{are_numbers}
use Rattle.pfm_floats.proofs.Stores.{sets_append, length_rgb}
use Rattle.pfm.specs.File.{colour_at, pixel_bytes}
use Rattle.pfm.specs.Bands.{colours_of, no_colour, AllNumbers, quarter_of, block_sets, cell_at, line_at, band_at, band_up}
use Rattle.laws.proofs.Joined.{run_length, run_room}
use Rattle.laws.proofs.Rows.{get_d_made}
use Rattle.pfm.proofs.Lines.{upto, upto_start, upto_length, upto_step, upto_end, four_sets_lem}

-- ---- lengths

pub length_pixel : (values : List ℕ) (k : ℕ) → length (pixel_bytes values k) ≡ 12
unfolding pixel_bytes
length_pixel values k = length_rgb _

pub length_quarter : (colours : List Rgb) (row : ℕ) → length (quarter_of colours row) ≡ 48
unfolding quarter_of
length_quarter colours row =
    simp length-append
    (omega (arith, length_rgb (get_or colours (4 * row) no_colour), length_rgb (get_or colours (4 * row + 1) no_colour), length_rgb (get_or colours (4 * row + 2) no_colour), length_rgb (get_or colours (4 * row + 3) no_colour)))

pub length_cell : (blocks : List ℕ) (format first row : ℕ) (column : ℕ) → length (cell_at blocks format first row column) ≡ 48
unfolding cell_at
length_cell blocks format first row column = length_quarter _ row

pub length_line : (blocks : List ℕ) (format first across row : ℕ) → length (line_at blocks format first across row) ≡ 48 * across
unfolding line_at
length_line blocks format first across row = run_length (cell_at blocks format first row) 48 (length_cell blocks format first row) across

pub length_band : (blocks : List ℕ) (format first across : ℕ) → length (band_at blocks format first across) ≡ 192 * across
unfolding band_at
length_band blocks format first across =
    simp length-append
    (omega (arith, length_line blocks format first across 0, length_line blocks format first across 1, length_line blocks format first across 2, length_line blocks format first across 3))

pub length_up : (blocks : List ℕ) (format across down n : ℕ) → length (band_up blocks format across down n) ≡ 192 * across
unfolding band_up
length_up blocks format across down n = length_band blocks format _ across

-- ---- four pixels, one after the other

pub four_pixels : (colours : List Rgb) (row : ℕ) (l l1 l2 l3 l4 : List ℕ) (n : ℕ) → l1 ≡ sets l n (rgb_bytes (get_or colours (4 * row) no_colour))
    → l2 ≡ sets l1 (n + 12) (rgb_bytes (get_or colours (4 * row + 1) no_colour)) → l3 ≡ sets l2 (n + 24) (rgb_bytes (get_or colours (4 * row + 2) no_colour))
    → l4 ≡ sets l3 (n + 36) (rgb_bytes (get_or colours (4 * row + 3) no_colour)) → l4 ≡ sets l n (quarter_of colours row)
unfolding quarter_of
four_pixels colours row l l1 l2 l3 l4 n a b c d =
    let at : ℕ → List ℕ = λ k. rgb_bytes (get_or colours k no_colour) in
    let long : (k : ℕ) → length (at k) ≡ 12 = λ k. length_rgb (get_or colours k no_colour) in
    let p = at (4 * row) in
    let q = at (4 * row + 1) in
    let s = at (4 * row + 2) in
    let t = at (4 * row + 3) in
    d ∙ ap (λ (x : List ℕ). sets x (n + 36) t) c ∙ sets_append s t l2 (n + 24) (n + 36) (omega (arith, long (4 * row + 2)))
    ∙ ap (λ (x : List ℕ). sets x (n + 24) (s ++ t)) b ∙ sets_append q (s ++ t) l1 (n + 12) (n + 24) (omega (arith, long (4 * row + 1)))
    ∙ ap (λ (x : List ℕ). sets x (n + 12) (q ++ (s ++ t))) a ∙ sets_append p (q ++ (s ++ t)) l n (n + 12) (omega (arith, long (4 * row)))

-- they are the pixels of a block's values
pub quarter_pixels : (values : List ℕ) (row : ℕ) → row < 4
    → quarter_of (colours_of values) row
    ≡ pixel_bytes values (4 * row) ++ (pixel_bytes values (4 * row + 1) ++ (pixel_bytes values (4 * row + 2) ++ pixel_bytes values (4 * row + 3)))
unfolding quarter_of colours_of pixel_bytes
quarter_pixels values row h =
    let at : (k : ℕ) → k < 16 → get_or (made (colour_at values) 16) k no_colour ≡ colour_at values k = λ k l. get_d_made (colour_at values) 16 k no_colour l in
    rw (at (4 * row) (omega arith), at (4 * row + 1) (omega arith), at (4 * row + 2) (omega arith), at (4 * row + 3) (omega arith))

-- a block's four rows, one after the other
pub block_stores : (colours : List Rgb) (stride : ℕ) (l l1 l2 l3 l4 : List ℕ) (at : ℕ) → l1 ≡ sets l at (quarter_of colours 3) → l2 ≡ sets l1 (at + stride) (quarter_of colours 2)
    → l3 ≡ sets l2 (at + 2 * stride) (quarter_of colours 1) → l4 ≡ sets l3 (at + 3 * stride) (quarter_of colours 0) → l4 ≡ block_sets colours stride l at
block_stores colours stride l l1 l2 l3 l4 at a b c d =
    d ∙ ap (λ (x : List ℕ). sets x (at + 3 * stride) (quarter_of colours 0)) (c
    ∙ ap (λ (x : List ℕ). sets x (at + 2 * stride) (quarter_of colours 1)) (b ∙ ap (λ (x : List ℕ). sets x (at + stride) (quarter_of colours 2)) a))

-- ---- a block that was decoded, by the statement of the pixels call alone

module _ {block : List ℕ} {format : ℕ} {out : List ℕ} {r : Pixels} {after : List ℕ} (p : Painted block format out r after)
    (f : format ≤ 1) (sixteen : length block ≡ 16) (room : length out ≡ 48) where
  -- S-25: none of the 48 values is a NaN
  number_at : (j : ℕ) → j < 48 → IsNumber (get_or after j 0)
  number_at j h =
      let fine = decoding_done p f sixteen room in
      cases (is_signed format)
      (λ s. ⊎_elim (λ e. rw e (omega arith)) (λ l. omega arith) (signed_highest p fine j h s))
      (λ s. let l : get_or after j 0 ≤ 0x7BFF = unsigned_highest p fine j h s in omega arith)

  -- and none of the sixteen pixels has one
  pub decoded_numbers : {colours : List Rgb} → colours ≡ colours_of after → AllNumbers colours
  unfolding colours_of
  decoded_numbers e = record {
    each = λ k h.
        are_numbers _ _ _ (ap (λ (l : List Rgb). get_or l k no_colour) e ∙ get_d_made (colour_at after) 16 k no_colour h)
        (number_at (3 * k) (omega arith)) (number_at (3 * k + 1) (omega arith)) (number_at (3 * k + 2) (omega arith));
  }

-- ---- the loop over a row of blocks

-- the first n blocks of the row are stored, in four rows of pixels, and the rest is as it was
unfoldable pub band_upto : List ℕ → ℕ → ℕ → ℕ → List ℕ → ℕ → List ℕ
band_upto blocks format first across out n =
    upto (cell_at blocks format first 3) 48 n (take (48 * across) out)
    ++ (upto (cell_at blocks format first 2) 48 n (take (48 * across) (drop (48 * across) out))
    ++ (upto (cell_at blocks format first 1) 48 n (take (48 * across) (drop (48 * across) (drop (48 * across) out)))
    ++ (upto (cell_at blocks format first 0) 48 n (take (48 * across) (drop (48 * across) (drop (48 * across) (drop (48 * across) out))))
    ++ drop (192 * across) out)))

pub parts : (l : ℕ) (out : List ℕ)
    → out ≡ take l out ++ (take l (drop l out) ++ (take l (drop l (drop l out)) ++ (take l (drop l (drop l (drop l out))) ++ drop l (drop l (drop l (drop l out))))))
parts l out =
    let split : (t : List ℕ) → t ≡ take l t ++ drop l t = λ t. sym (take-append-drop l t) in
    split out
    ∙ ap (λ (t : List ℕ). take l out ++ t)
    (split (drop l out)
    ∙ ap (λ (t : List ℕ). take l (drop l out) ++ t)
    (split (drop l (drop l out)) ∙ ap (λ (t : List ℕ). take l (drop l (drop l out)) ++ t) (split (drop l (drop l (drop l out))))))

module _ (blocks : List ℕ) (format first across : ℕ) (out : List ℕ) where
  behind : drop (48 * across) (drop (48 * across) (drop (48 * across) (drop (48 * across) out))) ≡ drop (192 * across) out
  behind =
      let l = 48 * across in
      let e : l + l + l + l ≡ 192 * across = omega arith in
      ap (λ (t : List ℕ). drop l (drop l t)) (drop-drop l l out) ∙ ap (drop l) (drop-drop l (l + l) out) ∙ drop-drop l (l + l + l) out
      ∙ ap (λ (n : ℕ). drop n out) e

  -- nothing is stored yet
  pub band_start : out ≡ band_upto blocks format first across out 0
  unfolding band_upto
  band_start =
      let l = 48 * across in
      let line : (row : ℕ) (old : List ℕ) → old ≡ upto (cell_at blocks format first row) 48 0 old = λ row old. upto_start (cell_at blocks format first row) 48 (length_cell blocks format first row) old in
      parts l out
      ∙ ap₂ (λ (s t : List ℕ). s ++ t) (line 3 _)
      (ap₂ (λ (s t : List ℕ). s ++ t) (line 2 _)
      (ap₂ (λ (s t : List ℕ). s ++ t) (line 1 _) (ap₂ (λ (s t : List ℕ). s ++ t) (line 0 _) behind)))

  module _ (room : 192 * across ≤ length out) where
    -- the four rows of pixels have one length
    one : length (take (48 * across) out) ≡ 48 * across
    one = length-take-le (48 * across) out (omega arith)

    two : length (take (48 * across) (drop (48 * across) out)) ≡ 48 * across
    two = length-take-le (48 * across) (drop (48 * across) out) (simp length-drop (omega arith))

    three : length (take (48 * across) (drop (48 * across) (drop (48 * across) out))) ≡ 48 * across
    three = length-take-le (48 * across) (drop (48 * across) (drop (48 * across) out)) (simp length-drop (omega arith))

    four : length (take (48 * across) (drop (48 * across) (drop (48 * across) (drop (48 * across) out)))) ≡ 48 * across
    four = length-take-le (48 * across) (drop (48 * across) (drop (48 * across) (drop (48 * across) out))) (simp length-drop (omega arith))

    -- the next block
    pub band_step : {values : List ℕ} {colours : List Rgb} {lent after : List ℕ} (n : ℕ) → n < across → lent ≡ band_upto blocks format first across out n
        → values ≡ pixels_of (is_signed format) (block_at blocks (first + n)) → colours ≡ colours_of values
        → after ≡ block_sets colours (48 * across) lent (48 * n) → after ≡ band_upto blocks format first across out (n + 1)
    unfolding band_upto cell_at
    band_step n h e v p s =
        let l = 48 * across in
        let f : ℕ → ℕ → List ℕ = cell_at blocks format first in
        let each : (row k : ℕ) → length (f row k) ≡ 48 = length_cell blocks format first in
        let w : 48 * n + 48 ≤ 48 * across = omega arith in
        let o1 = take l out in
        let o2 = take l (drop l out) in
        let o3 = take l (drop l (drop l out)) in
        let o4 = take l (drop l (drop l (drop l out))) in
        s ∙ ap₂ (λ (x : List Rgb) (y : List ℕ). block_sets x l y (48 * n)) (p ∙ ap colours_of v) e
        ∙ four_sets_lem (upto (f 3) 48 n o1) (upto (f 2) 48 n o2) (upto (f 1) 48 n o3) (upto (f 0) 48 n o4) (drop (192 * across) out) (f 3 n) (f 2 n) (f 1 n) (f 0 n) l (48 * n)
        (upto_length (f 3) 48 (each 3) o1 n (omega (arith, one)) ∙ one)
        (upto_length (f 2) 48 (each 2) o2 n (omega (arith, two)) ∙ two)
        (upto_length (f 1) 48 (each 1) o3 n (omega (arith, three)) ∙ three)
        (upto_length (f 0) 48 (each 0) o4 n (omega (arith, four)) ∙ four)
        (omega (arith, each 3 n)) (omega (arith, each 2 n)) (omega (arith, each 1 n)) (omega (arith, each 0 n))
        ∙ ap₂ (λ (x y : List ℕ). x ++ y) (upto_step (f 3) 48 (each 3) o1 n (omega (arith, one)))
        (ap₂ (λ (x y : List ℕ). x ++ y) (upto_step (f 2) 48 (each 2) o2 n (omega (arith, two)))
        (ap₂ (λ (x y : List ℕ). x ++ y) (upto_step (f 1) 48 (each 1) o3 n (omega (arith, three)))
        (ap (λ (x : List ℕ). x ++ drop (192 * across) out) (upto_step (f 0) 48 (each 0) o4 n (omega (arith, four))))))

    -- all are stored
    pub band_end : (after : List ℕ) (n : ℕ) → n ≤ across → across ≤ n → after ≡ band_upto blocks format first across out n
        → after ≡ band_at blocks format first across ++ drop (192 * across) out
    unfolding band_upto band_at line_at
    band_end after n a b e =
        let same : n ≡ across = omega arith in
        let f : ℕ → ℕ → List ℕ = cell_at blocks format first in
        let each : (row k : ℕ) → length (f row k) ≡ 48 = length_cell blocks format first in
        let j : ℕ → List ℕ = λ row. join (made (f row) across) in
        let rest = drop (192 * across) out in
        let flat : j 3 ++ (j 2 ++ (j 1 ++ (j 0 ++ rest))) ≡ (j 3 ++ (j 2 ++ (j 1 ++ j 0))) ++ rest = simp append_assoc in
        e ∙ ap (band_upto blocks format first across out) same
        ∙ ap₂ (λ (x y : List ℕ). x ++ y) (upto_end (f 3) 48 (each 3) _ across (omega (arith, one)))
        (ap₂ (λ (x y : List ℕ). x ++ y) (upto_end (f 2) 48 (each 2) _ across (omega (arith, two)))
        (ap₂ (λ (x y : List ℕ). x ++ y) (upto_end (f 1) 48 (each 1) _ across (omega (arith, three)))
        (ap (λ (x : List ℕ). x ++ rest) (upto_end (f 0) 48 (each 0) _ across (omega (arith, four))))))
        ∙ flat

-- ---- where row of blocks n from the bottom stands, among the blocks and in the file

pub record Placed (across down n bytes room : ℕ) : Type 0 where
  pub first : across * (down - 1 - n) ≤ 1048576
  pub inside : 16 * (across * (down - 1 - n) + across) ≤ bytes
  pub most : 192 * across * n ≤ 201326592
  pub behind_it : 192 * across * n + 192 * across ≤ room

pub placed : (across down n bytes room : ℕ) → n < down → across ≤ 1024 → down ≤ 1024 → 16 * (across * down) ≤ bytes → 192 * (across * down) ≤ room
    → Placed across down n bytes room
placed across down n bytes room h a d b r =
    let total : across * down ≤ 1024 * 1024 = mul-le-mul {n₂ = 1024} {m₂ = 1024} a d in
    let step : across * (down - 1 - n + 1) ≡ across * (down - 1 - n) + across * 1 = mul-add across (down - 1 - n) 1 in
    let low : across * (down - 1 - n + 1) ≤ across * down = mul-le-mul_left across (omega arith) in
    let all : 192 * across * down ≡ 192 * (across * down) = mul_assoc 192 across down in
    let here : 192 * across * n + 192 * across ≤ 192 * across * down =
    run_room (band_up [] 0 across down) (192 * across) (length_up [] 0 across down) down n (192 * across * down) h (omega arith) in
    record { first = omega arith; inside = omega arith; most = omega arith; behind_it = omega arith }
