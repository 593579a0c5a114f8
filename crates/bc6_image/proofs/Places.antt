-- Where the pixels of a face stand: no two in one place, and what is stored block by block is the face. Assumes nothing.
use mathlib.Core.Path.{◌≡◌, ◌∙◌, refl, sym, ap, ap₂}
use mathlib.Core.Bool.{Bool, true, false}
use mathlib.Core.List.{List, [], ◌++◌, append-nil, append_assoc}
use Prim.Native.Nat.{ℕ, zero, suc, ◌+◌, ◌-◌, ◌*◌, ◌/◌, ◌%◌, ◌≤◌, ◌<◌}
use native.Mathlib.Nat.{add-zero, mul-add, mul_comm, mul_assoc, mul_left_comm, mul-le-mul_left, mul-le-mul_right, mul-pos, mul-add-div, mul-add-mod_self_left, div-eq_of_lt, mod-eq_of_lt, mod-lt, mod-le, div-le_self, div-add-mod, div-lt_iff_lt-mul}
use native.Mathlib.Numerals.{add-one, add-two, add-three}
use native.Mathlib.Omega.{arith}
use lib.ListN.{length, get_or, set, take, drop, length-drop}
use lib.Seq.{sets, sets-eq, length-take-le, get_or-drop, drop-drop}
use borrow.Rule.Slice.PartMut.{put_mid}
use lib.Dec.{ltb}
use borrow.Author.Tests.{ltb-true, lt-ltb}
use Rattle.laws.proofs.Tests.{cases, both_true}
use Rattle.laws.proofs.Sameness.{true_false}
use Rattle.laws.proofs.Rows.{made-cong, made_each}
use Rattle.laws.proofs.Taken.{made_taken}
use Rattle.laws.proofs.Joined.{run_length, run_value}
use Rattle.laws.specs.Made.{made, join}
use Rattle.bc6_blocks.specs.Run.{shown_at}
use Rattle.bc6_image.specs.Face.{lanes, opaque, lane_of, lane_at, row_size, FaceShown, in_face, image_value, image_in}
use Rattle.bc6_image.specs.Stores.{stored_cells, pixel_of, pixel_in, block_row, plain_value, pixel_place, block_put, corner, place_at, cell_at, face_put, Fitting}
use Rattle.bc6_image.proofs.Scatter.{sets_run, scattered_length, scattered_on, scattered_run, scattered_miss, scattered_hit}

-- ---- rows of one length: which row, and where in it

pub row_div : (size row j : ℕ) → j < size → (size * row + j) / size ≡ row
row_div size row j h = mul-add-div {m = size} (omega arith) row j ∙ ap (λ (k : ℕ). row + k) (div-eq_of_lt h) ∙ add-zero row

pub row_mod : (size row j : ℕ) → j < size → (size * row + j) % size ≡ j
row_mod size row j h = mul-add-mod_self_left size row j ∙ mod-eq_of_lt h

-- ---- the values of a pixel

pub lanes_low : (alpha : Bool) → 3 ≤ lanes alpha
lanes_low true = omega arith
lanes_low false = omega arith

pub lanes_high : (alpha : Bool) → lanes alpha ≤ 4
lanes_high true = omega arith
lanes_high false = omega arith

pub length_pixel : (alpha : Bool) (values : List ℕ) (k : ℕ) → length (pixel_of alpha values k) ≡ lanes alpha
unfolding pixel_of
length_pixel true values k = refl
length_pixel false values k = refl

pixel_lane : (alpha : Bool) (values : List ℕ) (k c : ℕ) → c < lanes alpha → get_or (pixel_of alpha values k) c 0 ≡ lane_of values k c
unfolding pixel_of lane_of
pixel_lane alpha values k zero h = ap (λ (n : ℕ). get_or values n 0) (sym (add-zero (3 * k)))
pixel_lane alpha values k (suc zero) h = refl
pixel_lane alpha values k (suc (suc zero)) h = refl
pixel_lane true values k (suc (suc (suc zero))) h = refl
pixel_lane false values k (suc (suc (suc zero))) h = absurd (omega arith)
pixel_lane alpha values k (suc (suc (suc (suc c)))) h = absurd (let l = lanes_high alpha in omega arith)

-- the stores of a pixel with alpha
pub pixel_opaque : (values l : List ℕ) (k at : ℕ)
    → set (set (set (set l at (get_or values (3 * k) 0)) (at + 1) (get_or values (3 * k + 1) 0)) (at + 2) (get_or values (3 * k + 2) 0)) (at + 3) opaque
    ≡ sets l at (pixel_of true values k)
unfolding pixel_of
pixel_opaque values l k at = rw (add-one at, add-two at, add-three at)

-- ---- the values of a row of a block

pub length_in : (alpha : Bool) (values : List ℕ) (row j : ℕ) → length (pixel_in alpha values row j) ≡ lanes alpha
unfolding pixel_in
length_in alpha values row j = length_pixel alpha values (4 * row + j)

-- without alpha they stand one behind the other in the block
pub plain_row : (values : List ℕ) (row : ℕ) → made (plain_value values row) 12 ≡ block_row false values row
unfolding plain_value pixel_in lane_of
plain_row values row = sym (made_each (plain_value values row) (block_row false values row) 12 (run_length (pixel_in false values row) 3 (length_in false values row) 4) value)
  where
    value : (x : ℕ) → x < 12 → get_or (block_row false values row) x 0 ≡ plain_value values row x
    value x h =
        let here : 3 * (x / 3) + x % 3 ≡ x = omega arith in
        let there : 3 * (4 * row + x / 3) + x % 3 ≡ 12 * row + x = omega arith in
        let low : x % 3 < 3 = omega arith in
        ap (λ (l : List ℕ). get_or l x 0) (sym (append-nil (block_row false values row)))
        ∙ ap (λ (k : ℕ). get_or (block_row false values row ++ []) k 0) (sym here)
        ∙ run_value (pixel_in false values row) 3 (length_in false values row) 4 (x / 3) (x % 3) [] (omega arith) low
        ∙ pixel_lane false values (4 * row + x / 3) (x % 3) low
        ∙ rw (lt-ltb (x % 3) 3 low, there)

-- ---- the loops over a row

module _ (values : List ℕ) (row : ℕ) (out : List ℕ) (at : ℕ) where
  -- the twelve values are copied
  pub plain_put : {part : List ℕ} → length values ≡ 48 → row < 4 → at + 12 ≤ length out → part ≡ take (12 * row + 12 - 12 * row) (drop (12 * row) values)
      → put_mid at (at + 12 - at) out part ≡ sets out at (block_row false values row)
  unfolding plain_value
  plain_put {part} size few room e =
      let left : 12 ≤ length (drop (12 * row) values) = let l = length-drop (12 * row) values in omega (arith, l, size, few) in
      let twelve : 12 * row + 12 - 12 * row ≡ 12 = omega arith in
      let also : at + 12 - at ≡ 12 = omega arith in
      let is : part ≡ take 12 (drop (12 * row) values) = e ∙ ap (λ (n : ℕ). take n (drop (12 * row) values)) twelve in
      let long : length part ≡ 12 = ap length is ∙ length-take-le 12 (drop (12 * row) values) left in
      let same : part ≡ made (plain_value values row) 12 =
      is ∙ sym (made_taken (drop (12 * row) values) 12 left) ∙ made-cong _ _ (λ k. get_or-drop (12 * row) values k 0) 12 in
      ap (λ (n : ℕ). put_mid at n out part) (also ∙ sym long)
      ∙ ap (λ (l : List ℕ). take at out ++ (part ++ l)) (drop-drop (length part) at out)
      ∙ sym (append_assoc (take at out) part (drop (at + length part) out))
      ∙ sym (sets-eq part out at (rw long room))
      ∙ ap (sets out at) (same ∙ plain_row values row)

  pub opaque_start : out ≡ sets out at (join (made (pixel_in true values row) 0))
  unfolding made
  opaque_start = refl

  pub opaque_step : {lent after : List ℕ} (x : ℕ) → lent ≡ sets out at (join (made (pixel_in true values row) x))
      → after ≡ sets lent (at + 4 * x) (pixel_of true values (4 * row + x)) → after ≡ sets out at (join (made (pixel_in true values row) (x + 1)))
  unfolding pixel_in
  opaque_step x e s = s ∙ ap (λ (l : List ℕ). sets l (at + 4 * x) (pixel_in true values row x)) e ∙ sets_run (pixel_in true values row) 4 (length_in true values row) out at x

length_cell : (signed alpha : Bool) (blocks : List ℕ) (q : ℕ) → length (cell_at signed alpha blocks q) ≡ lanes alpha
unfolding cell_at
length_cell signed alpha blocks q = length_pixel alpha (shown_at signed blocks (q / 16)) (q % 16)

-- ---- pixel q of all, sixteen a block: its x and y; and the number of the pixel at (x, y)

abbrev x_at : ℕ → ℕ → ℕ
x_at width q = 4 * (q / 16 % width) + q % 16 % 4

abbrev y_at : ℕ → ℕ → ℕ
y_at width q = 4 * (q / 16 / width) + q % 16 / 4

abbrev number_at : ℕ → ℕ → ℕ → ℕ
number_at width x y = 16 * (width * (y / 4) + x / 4) + (4 * (y % 4) + x % 4)

-- where its value c stands
value_at : (alpha : Bool) (width pitch q c : ℕ) → place_at alpha width pitch q + c ≡ pitch * y_at width q + (lanes alpha * x_at width q + c)
unfolding place_at pixel_place
value_at alpha width pitch q c =
    let a : pitch * (4 * (q / 16 / width) + q % 16 / 4) ≡ pitch * (4 * (q / 16 / width)) + pitch * (q % 16 / 4) = mul-add pitch (4 * (q / 16 / width)) (q % 16 / 4) in
    let b : lanes alpha * (4 * (q / 16 % width) + q % 16 % 4) ≡ lanes alpha * (4 * (q / 16 % width)) + lanes alpha * (q % 16 % 4) =
    mul-add (lanes alpha) (4 * (q / 16 % width)) (q % 16 % 4) in
    omega arith

-- a pixel's number, from its x and y
number_back : (width q : ℕ) → number_at width (x_at width q) (y_at width q) ≡ q
number_back width q = go (q / 16 / width) (q / 16 % width) (q / 16) (q % 16) (omega arith) (div-add-mod (q / 16) width) (omega arith)
  where
    go : (a b n k : ℕ) → k < 16 → width * a + b ≡ n → 16 * n + k ≡ q → number_at width (4 * b + k % 4) (4 * a + k / 4) ≡ q
    go a b n k h e f =
        let ya : (4 * a + k / 4) / 4 ≡ a = omega arith in
        let yb : (4 * a + k / 4) % 4 ≡ k / 4 = omega arith in
        let xa : (4 * b + k % 4) / 4 ≡ b = omega arith in
        let xb : (4 * b + k % 4) % 4 ≡ k % 4 = omega arith in
        rw (ya, yb, xa, xb) (omega arith)

-- the pixel at (x, y): its block, its number in the block, and its x and y
module _ (width x y : ℕ) (hx : x < 4 * width) where
  block_of : number_at width x y / 16 ≡ width * (y / 4) + x / 4
  block_of = omega arith

  pixel_of_lem : number_at width x y % 16 ≡ 4 * (y % 4) + x % 4
  pixel_of_lem = omega arith

  x_of : x_at width (number_at width x y) ≡ x
  x_of = rw (block_of, pixel_of_lem, row_mod width (y / 4) (x / 4) (omega arith)) (omega arith)

  y_of : y_at width (number_at width x y) ≡ y
  y_of = rw (block_of, pixel_of_lem, row_div width (y / 4) (x / 4) (omega arith)) (omega arith)

-- ---- the values of a row

module _ (alpha : Bool) (width : ℕ) where
  in_row : (x c : ℕ) → x < 4 * width → c < lanes alpha → lanes alpha * x + c < row_size alpha width
  in_row x c hx hc =
      let m : lanes alpha * (x + 1) ≤ lanes alpha * (4 * width) = mul-le-mul_left (lanes alpha) (omega arith) in
      let e : lanes alpha * (x + 1) ≡ lanes alpha * x + lanes alpha * 1 = mul-add (lanes alpha) x 1 in
      omega arith

  -- where a value stands tells its pixel
  module _ (pitch : ℕ) (wide : row_size alpha width ≤ pitch) (x y c : ℕ) (hx : x < 4 * width) (hc : c < lanes alpha) where
    pub y_told : (pitch * y + (lanes alpha * x + c)) / pitch ≡ y
    y_told = row_div pitch y (lanes alpha * x + c) (omega (arith, in_row x c hx hc))

    pub j_told : (pitch * y + (lanes alpha * x + c)) % pitch ≡ lanes alpha * x + c
    j_told = row_mod pitch y (lanes alpha * x + c) (omega (arith, in_row x c hx hc))

    pub x_told : (pitch * y + (lanes alpha * x + c)) % pitch / lanes alpha ≡ x
    x_told = ap (λ (j : ℕ). j / lanes alpha) j_told ∙ row_div (lanes alpha) x c hc

-- ---- which values are a pixel's

module _ (alpha : Bool) (width height pitch : ℕ) where
  in_face_lem : row_size alpha width ≤ pitch → (x y c : ℕ) → x < 4 * width → y < 4 * height → c < lanes alpha
      → in_face alpha width height pitch (pitch * y + (lanes alpha * x + c)) ≡ true
  unfolding in_face
  in_face_lem wide x y c hx hy hc =
      rw (y_told alpha width pitch wide x y c hx hc, j_told alpha width pitch wide x y c hx hc, lt-ltb _ _ hy, lt-ltb _ _ (in_row alpha width x c hx hc))

  record Told (i : ℕ) : Type 0 where
    across : i % pitch / lanes alpha < 4 * width
    down : i / pitch < 4 * height
    lane : i % pitch % lanes alpha < lanes alpha
    whole : i ≡ pitch * (i / pitch) + (lanes alpha * (i % pitch / lanes alpha) + i % pitch % lanes alpha)

  face_told : (i : ℕ) → in_face alpha width height pitch i ≡ true → Told i
  unfolding in_face
  face_told i t =
      let b = both_true (ltb (i / pitch) (4 * height)) (ltb (i % pitch) (row_size alpha width)) t in
      let j : i % pitch < row_size alpha width = ltb-true _ _ b.1 in
      let low = lanes_low alpha in
      record {
        across = (div-lt_iff_lt-mul {k = lanes alpha} (omega arith)).1 (rw (mul_comm (4 * width) (lanes alpha)) j);
        down = ltb-true _ _ b.0;
        lane = mod-lt (i % pitch) {m = lanes alpha} (omega arith);
        whole = sym (ap (λ (k : ℕ). pitch * (i / pitch) + k) (div-add-mod (i % pitch) (lanes alpha)) ∙ div-add-mod i pitch);
      }

-- ---- a face with a block in it

module _ (alpha : Bool) (width height pitch : ℕ) where
  -- pixel q of all is one of the face's
  x_low : 0 < width → (q : ℕ) → x_at width q < 4 * width
  x_low w q = let m : q / 16 % width < width = mod-lt (q / 16) w in omega arith

  y_low : 0 < width → (q : ℕ) → q < 16 * (width * height) → y_at width q < 4 * height
  y_low w q h =
      let n : q / 16 < height * width = (let e : height * width ≡ width * height = mul_comm height width in omega arith) in
      let m : q / 16 / width < height = (div-lt_iff_lt-mul w).1 n in
      omega arith

  some_width : {q : ℕ} → q < 16 * (width * height) → 0 < width
  some_width {q} h = go width h
    where
      go : (w : ℕ) → q < 16 * (w * height) → 0 < w
      go zero l = absurd (omega arith)
      go (suc w) l = omega arith

  pub block_low : (x y : ℕ) → x < 4 * width → y < 4 * height → width * (y / 4) + x / 4 < width * height
  block_low x y hx hy =
      let m : width * (y / 4 + 1) ≤ width * height = mul-le-mul_left width (omega arith) in
      let e : width * (y / 4 + 1) ≡ width * (y / 4) + width * 1 = mul-add width (y / 4) 1 in
      omega arith

  some_block : (x y : ℕ) → x < 4 * width → y < 4 * height → 0 < width * height
  some_block x y hx hy = mul-pos {m = width} {n = height} (omega arith) (omega arith)

  -- the last value of a pixel stands in the room of the face
  in_room : (room : ℕ) → pitch * (4 * height - 1) + row_size alpha width ≤ room → (x y c : ℕ) → x < 4 * width → y < 4 * height → c < lanes alpha
      → pitch * y + (lanes alpha * x + c) < room
  in_room room enough x y c hx hy hc =
      let m : pitch * y ≤ pitch * (4 * height - 1) = mul-le-mul_left pitch (omega arith) in
      let l = in_row alpha width x c hx hc in
      omega arith

  -- no two values in one place
  module _ (wide : row_size alpha width ≤ pitch) (w : 0 < width) where
    -- where a value stands tells the number of its pixel
    number_told : (q c : ℕ) → c < lanes alpha → (let i = place_at alpha width pitch q + c in number_at width (i % pitch / lanes alpha) (i / pitch) ≡ q)
    number_told q c hc =
        rw (
          value_at alpha width pitch q c,
          x_told alpha width pitch wide (x_at width q) (y_at width q) c (x_low w q) hc,
          y_told alpha width pitch wide (x_at width q) (y_at width q) c (x_low w q) hc,
        ) (number_back width q)

    once : (q c r d : ℕ) → c < lanes alpha → d < lanes alpha → place_at alpha width pitch q + c ≡ place_at alpha width pitch r + d → r ≡ q
    once q c r d hc hd e = sym (number_told r d hd) ∙ ap (λ (i : ℕ). number_at width (i % pitch / lanes alpha) (i / pitch)) (sym e) ∙ number_told q c hc

-- ---- what is stored block by block is the face

module _ (signed alpha : Bool) (blocks : List ℕ) (width height pitch : ℕ) (out : List ℕ) {size : ℕ} (fits : Fitting alpha width height pitch size (length out)) where
  pub put_shown : FaceShown signed alpha blocks width height pitch out (face_put signed alpha blocks width pitch (width * height) out)
  unfolding lane_at cell_at shown_at
  put_shown = record {
    long = scattered_length (place_at alpha width pitch) (cell_at signed alpha blocks) out (16 * (width * height));
    pixel = λ x y c hx hy hc.
        let some = some_block alpha width height pitch x y hx hy in
        let q = number_at width x y in
        let here : pitch * y + (lanes alpha * x + c) ≡ place_at alpha width pitch q + c =
        sym (value_at alpha width pitch q c ∙ ap₂ (λ (a b : ℕ). pitch * b + (lanes alpha * a + c)) (x_of width x y hx) (y_of width x y hx)) in
        let room : place_at alpha width pitch q + c < length out =
        (let r = in_room alpha width height pitch (length out) (fits.enough some) x y c hx hy hc in omega arith) in
        ap (λ (i : ℕ). get_or (face_put signed alpha blocks width pitch (width * height) out) i 0) here
        ∙ scattered_hit (place_at alpha width pitch) (cell_at signed alpha blocks) (lanes alpha) (length_cell signed alpha blocks) out (16 * (width * height)) q c
        (let l = block_low alpha width height pitch x y hx hy in omega arith) hc room
        (λ r d hr hd e. once alpha width height pitch (fits.pitched some) (omega arith) q c r d hc hd e)
        ∙ pixel_lane alpha (shown_at signed blocks (q / 16)) (q % 16) c hc
        ∙ ap₂ (λ (n k : ℕ). lane_of (shown_at signed blocks n) k c) (block_of width x y hx) (pixel_of_lem width x y hx);
    rest = λ i h off.
        scattered_miss (place_at alpha width pitch) (cell_at signed alpha blocks) (lanes alpha) (length_cell signed alpha blocks) out (16 * (width * height)) i
        (λ q c hq hc e.
        let w = some_width alpha width height pitch hq in
        off (x_at width q) (y_at width q) c (x_low alpha width height pitch w q) (y_low alpha width height pitch w q hq) hc (e ∙ value_at alpha width pitch q c));
  }

  -- the face in words, and nothing else, is the face as it is computed
  pub shown_is : {after : List ℕ} → FaceShown signed alpha blocks width height pitch out after → after ≡ image_in signed alpha blocks width height pitch out
  unfolding image_in image_value
  shown_is {after} s = made_each (image_value signed alpha blocks width height pitch out) after (length out) s.long (λ i h. cases (in_face alpha width height pitch i) (inside i h) (outside i h))
    where
      inside : (i : ℕ) → i < length out → in_face alpha width height pitch i ≡ true → get_or after i 0 ≡ image_value signed alpha blocks width height pitch out i
      inside i h t =
          let p = face_told alpha width height pitch i t in
          ap (λ (k : ℕ). get_or after k 0) p.whole ∙ s.pixel (i % pitch / lanes alpha) (i / pitch) (i % pitch % lanes alpha) p.across p.down p.lane ∙ rw t

      outside : (i : ℕ) → i < length out → in_face alpha width height pitch i ≡ false → get_or after i 0 ≡ image_value signed alpha blocks width height pitch out i
      outside i h f =
          s.rest i h (λ x y c hx hy hc e.
          true_false (sym (in_face_lem alpha width height pitch (fits.pitched (some_block alpha width height pitch x y hx hy)) x y c hx hy hc) ∙ ap (in_face alpha width height pitch) (sym e) ∙ f))
          ∙ rw f

  -- and the other way round: what is stored block by block shows it
  pub is_shown : FaceShown signed alpha blocks width height pitch out (image_in signed alpha blocks width height pitch out)
  is_shown = rw (sym (shown_is put_shown)) put_shown

-- ---- the loop over a block's rows

module _ (alpha : Bool) (pitch : ℕ) (values : List ℕ) (at : ℕ) (out : List ℕ) where
  pub block_start : out ≡ stored_cells (pixel_place alpha pitch at) (pixel_of alpha values) (4 * 0) out
  unfolding stored_cells
  block_start = refl

  pub block_step : {lent after : List ℕ} (row : ℕ) → lent ≡ stored_cells (pixel_place alpha pitch at) (pixel_of alpha values) (4 * row) out
      → after ≡ sets lent (at + pitch * row) (block_row alpha values row)
      → after ≡ stored_cells (pixel_place alpha pitch at) (pixel_of alpha values) (4 * (row + 1)) out
  unfolding pixel_place pixel_in
  block_step row e s =
      let more : 4 * row + 4 ≡ 4 * (row + 1) = omega arith in
      s ∙ ap (λ (l : List ℕ). sets l (at + pitch * row) (block_row alpha values row)) e
      ∙ scattered_run (pixel_place alpha pitch at) (pixel_of alpha values) (pixel_in alpha values row) (lanes alpha) (at + pitch * row) (4 * row) (length_in alpha values row) out 4
      place_in (λ j h. refl)
      ∙ ap (λ (k : ℕ). stored_cells (pixel_place alpha pitch at) (pixel_of alpha values) k out) more
    where
      place_in : (j : ℕ) → j < 4 → at + pitch * row + lanes alpha * j ≡ pixel_place alpha pitch at (4 * row + j)
      place_in j h = rw (row_div 4 row j h, row_mod 4 row j h) (omega arith)

-- ---- the loop over the blocks

module _ (signed alpha : Bool) (blocks : List ℕ) (width pitch : ℕ) (out : List ℕ) where
  pub put_start : out ≡ face_put signed alpha blocks width pitch 0 out
  unfolding stored_cells
  put_start = refl

  pub put_step : (n : ℕ) {lent values after : List ℕ} {step : ℕ} → lent ≡ face_put signed alpha blocks width pitch n out → values ≡ shown_at signed blocks n → step ≡ lanes alpha
      → after ≡ block_put alpha pitch values (pitch * (4 * (n / width)) + step * (4 * (n % width))) lent → after ≡ face_put signed alpha blocks width pitch (n + 1) out
  unfolding place_at cell_at
  put_step n {lent} {values} e v l s =
      let more : 16 * n + 16 ≡ 16 * (n + 1) = omega arith in
      s ∙ ap (λ (k : ℕ). block_put alpha pitch values (pitch * (4 * (n / width)) + k * (4 * (n % width))) lent) l
      ∙ ap₂ (λ (l v : List ℕ). block_put alpha pitch v (corner alpha width pitch n) l) e v
      ∙ scattered_on (place_at alpha width pitch) (pixel_place alpha pitch (corner alpha width pitch n)) (cell_at signed alpha blocks) (pixel_of alpha (shown_at signed blocks n)) (16 * n) out 16
      (λ j h. place_in j h) (λ j h. cell_in j h)
      ∙ ap (λ (k : ℕ). stored_cells (place_at alpha width pitch) (cell_at signed alpha blocks) k out) more
    where
      place_in : (j : ℕ) → j < 16 → pixel_place alpha pitch (corner alpha width pitch n) j ≡ place_at alpha width pitch (16 * n + j)
      place_in j h = rw (row_div 16 n j h, row_mod 16 n j h)

      cell_in : (j : ℕ) → j < 16 → pixel_of alpha (shown_at signed blocks n) j ≡ cell_at signed alpha blocks (16 * n + j)
      cell_in j h = rw (row_div 16 n j h, row_mod 16 n j h)

-- ---- where block n of a face stands: its numbers are small, and its four rows lie in the room

row_large : (alpha : Bool) (width : ℕ) → 12 * width ≤ row_size alpha width
row_large true width = omega arith
row_large false width = omega arith

-- 48 values a block
face_room : (alpha : Bool) (width height pitch room : ℕ) → 0 < height → row_size alpha width ≤ pitch → pitch * (4 * height - 1) + row_size alpha width ≤ room
    → 48 * (width * height) ≤ room
face_room alpha width height pitch room h wide enough =
    let large = row_large alpha width in
    let rows : 12 * width * (4 * height - 1) ≤ pitch * (4 * height - 1) = mul-le-mul_right (4 * height - 1) (omega arith) in
    let last : 4 * height - 1 + 1 ≡ 4 * height = omega arith in
    let all : 12 * width * (4 * height - 1 + 1) ≡ 12 * width * (4 * height - 1) + 12 * width * 1 = mul-add (12 * width) (4 * height - 1) 1 in
    let blocks : 12 * width * (4 * height) ≡ 12 * 4 * (width * height) = regroup width height in
    omega (arith, rw last at all)
  where
    regroup : (a b : ℕ) → 12 * a * (4 * b) ≡ 12 * 4 * (a * b)
    regroup a b = simp (mul_assoc, mul_left_comm)

pub record Cornered (width pitch step n room : ℕ) : Type 0 where
  pub wide : 0 < width
  pub row : n / width ≤ n
  pub column : n % width ≤ n
  pub place : pitch * (4 * (n / width)) + step * (4 * (n % width)) + (pitch * 3 + step * 4) ≤ room
  pub full : 48 * n + 48 ≤ room

pub cornered : (alpha : Bool) (width height pitch step size room n : ℕ) → Fitting alpha width height pitch size room → step ≡ lanes alpha → n < size / 16
    → Cornered width pitch step n room
cornered alpha width height pitch step size room n fits s h =
    let count : n < width * height = (let b : size ≡ 16 * (width * height) = fits.bytes in omega arith) in
    let enough = fits.enough (omega arith) in
    let w : 0 < width = some_width alpha width height pitch {q = 16 * n} (omega arith) in
    let m : n % width < width = mod-lt n w in
    let d : n / width < height = (div-lt_iff_lt-mul w).1 (rw (mul_comm height width) count) in
    let a : pitch * (4 * (n / width) + 3) ≤ pitch * (4 * height - 1) = mul-le-mul_left pitch (omega arith) in
    let b : pitch * (4 * (n / width) + 3) ≡ pitch * (4 * (n / width)) + pitch * 3 = mul-add pitch (4 * (n / width)) 3 in
    let c : lanes alpha * (4 * (n % width) + 4) ≤ lanes alpha * (4 * width) = mul-le-mul_left (lanes alpha) (omega arith) in
    let e : lanes alpha * (4 * (n % width) + 4) ≡ lanes alpha * (4 * (n % width)) + lanes alpha * 4 = mul-add (lanes alpha) (4 * (n % width)) 4 in
    let all : 48 * (width * height) ≤ room = face_room alpha width height pitch room (omega arith) (fits.pitched (omega arith)) enough in
    record { wide = w; row = div-le_self n width; column = mod-le n width; place = rw s (omega arith); full = omega arith }
