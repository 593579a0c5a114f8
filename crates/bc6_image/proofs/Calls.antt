-- The calls over a face: their refusals, their one outcome, and what a caller learns from it. Assumes nothing.
use mathlib.Core.Path.{◌≡◌, ◌∙◌, refl, sym, ap}
use mathlib.Core.Bool.{Bool, true, false, not}
use mathlib.Core.List.{List, [], ◌∷◌}
use Prim.Native.Nat.{ℕ, zero, suc, ◌+◌, ◌-◌, ◌*◌, ◌/◌, ◌%◌, ◌≤◌, ◌<◌}
use native.Mathlib.Nat.{zero-mul, mul_comm, mul-le-mul_left, mul-mod_right, le-div_iff_mul-le}
use native.Mathlib.Omega.{arith}
use lib.Dec.{eqb, leb, ltb}
use lib.ListN.{length, get_or, drop, get_or-append}
use lib.Seq.{get_or-take, get_or-drop}
use borrow.Author.Tests.{lt-ltb, le-ltb, le-leb, lt-leb, eq-eqb, ne_eqb, ltb-true, ltb-false, leb-true, eqb-true, not-false}
use Rattle.laws.specs.Checks.{first_met}
use Rattle.laws.proofs.Checks.{none_met}
use Rattle.laws.proofs.Tests.{cases, both_true}
use Rattle.bcn_spec.specs.Answers.{done, bad_format, short_output, blocks_misfit}
use Rattle.bcn_spec.specs.Bits.{block_size, blocks_in, block_at}
use Rattle.bc6h_spec.specs.Picture.{is_signed}
use Rattle.bc6h_spec.specs.Block.{pixels_of}
use Rattle.bc6h_spec.proofs.Values.{length_pixels}
use Rattle.bc6.specs.Call.{Pixels}
use Rattle.bc6.specs.Call.{refusal_of, Painted}
use Rattle.bc6.proofs.Calls.{written}
use Rattle.bc6_blocks.specs.Run.{BlocksPixels}
use Rattle.bc6_blocks.specs.Run.{run_refusal, RunPainted}
use Rattle.bc6_blocks.proofs.Calls.{block_by_block}
use Rattle.bc6_image.specs.Face.{FacePixels}
use Rattle.bc6_image.specs.Face.{lanes, opaque, lane_of, lane_at, row_size, FaceShown, image_in, roomy, image_refusal, ImagePainted}
use Rattle.bc6_image.specs.Stores.{FaceWritten, Fitting}
use Rattle.bc6_image.proofs.Places.{lanes_low, block_low, put_shown, shown_is, is_shown}

-- ---- the bytes of so many blocks

module _ (size width height : ℕ) where
  pub uneven : (size % 16 ≡ 0 → ⊥) → false ≡ eqb size (block_size * (width * height))
  uneven u = sym (ne_eqb size (16 * (width * height)) (λ e. u (omega arith)))

  module _ (s : size % 16 ≡ 0) where
    pub broken_row : (size / 16 % width ≡ 0 → ⊥) → false ≡ eqb size (block_size * (width * height))
    broken_row u =
        sym (ne_eqb size (16 * (width * height)) (λ e.
        let n : size / 16 ≡ width * height = omega arith in u (ap (λ (k : ℕ). k % width) n ∙ mul-mod_right width height)))

-- ---- the refusals, in their order

-- sides of a face with a block in it
pub record Sides (size width height : ℕ) : Type 0 where
  pub wide : 16 * width ≤ size
  pub high : 16 * height ≤ size
  pub some_width : 0 < width
  pub some_height : 0 < height

pub sides : (size width height : ℕ) → size ≡ block_size * (width * height) → (size ≡ 0 → ⊥) → Sides size width height
sides size zero height e n = absurd (n (e ∙ rw (zero-mul height)))
sides size (suc w) zero e n = absurd (n (omega arith))
sides size (suc w) (suc h) e n =
    let a : suc w * 1 ≤ suc w * suc h = mul-le-mul_left (suc w) (omega arith) in
    let b : suc h * 1 ≤ suc h * suc w = mul-le-mul_left (suc h) (omega arith) in
    let c : suc h * suc w ≡ suc w * suc h = mul_comm (suc h) (suc w) in
    record { wide = omega arith; high = omega arith; some_width = omega arith; some_height = omega arith }

module _ (alpha : Bool) (size format width height pitch room : ℕ) where
  pub refused_format : 1 < format → bad_format ≡ image_refusal alpha size format width height pitch room
  unfolding image_refusal
  refused_format f = rw (lt-ltb _ _ f)

  module _ (f : format ≤ 1) where
    pub refused_blocks : eqb size (block_size * (width * height)) ≡ false → blocks_misfit ≡ image_refusal alpha size format width height pitch room
    unfolding image_refusal
    refused_blocks b = rw (le-ltb _ _ f, b)

    module _ (b : eqb size (block_size * (width * height)) ≡ true) where
      bytes : size ≡ 16 * (width * height)
      bytes = eqb-true size (16 * (width * height)) b

      by_room : {number : ℕ} (t : Bool) → roomy alpha width height pitch room ≡ t → number ≡ first_met ((not t, short_output) ∷ [])
          → number ≡ image_refusal alpha size format width height pitch room
      unfolding image_refusal
      by_room t r e = rw (le-ltb _ _ f, b, r) e

      pub done_empty : size ≡ 0 → done ≡ image_refusal alpha size format width height pitch room
      unfolding roomy
      done_empty z = by_room true (let s = bytes in let n : width * height ≡ 0 = omega arith in rw (eq-eqb _ _ n)) refl

      module _ (n : size ≡ 0 → ⊥) where
        some : eqb (width * height) 0 ≡ false
        some = ne_eqb (width * height) 0 (λ e. n (let s = bytes in omega arith))

        pub refused_pitch : pitch < row_size alpha width → short_output ≡ image_refusal alpha size format width height pitch room
        unfolding roomy
        refused_pitch p = by_room false (rw (some, lt-leb (row_size alpha width) pitch p)) refl

        module _ (p : row_size alpha width ≤ pitch) where
          refused_room : room < pitch * (4 * height - 1) + row_size alpha width → short_output ≡ image_refusal alpha size format width height pitch room
          unfolding roomy
          refused_room r = by_room false (rw (some, le-leb (row_size alpha width) pitch p, lt-leb (pitch * (4 * height - 1) + row_size alpha width) room r)) refl

          pub refused_row : room < row_size alpha width → short_output ≡ image_refusal alpha size format width height pitch room
          refused_row r = refused_room (omega arith)

          pub positive : 0 < pitch
          positive =
              let s = sides size width height bytes n in
              let l = lanes_low alpha in
              let m : lanes alpha * 1 ≤ lanes alpha * (4 * width) = mul-le-mul_left (lanes alpha) (omega arith) in
              omega arith

          module _ (r : row_size alpha width ≤ room) where
            pub refused_last : (room - row_size alpha width) / pitch < 4 * height - 1 → short_output ≡ image_refusal alpha size format width height pitch room
            refused_last l =
                refused_room
                (cases (ltb room (pitch * (4 * height - 1) + row_size alpha width))
                (λ t. ltb-true _ _ t)
                (λ t.
                let e = ltb-false room (pitch * (4 * height - 1) + row_size alpha width) t in
                let c : (4 * height - 1) * pitch ≡ pitch * (4 * height - 1) = mul_comm (4 * height - 1) pitch in
                let k : 4 * height - 1 ≤ (room - row_size alpha width) / pitch = (le-div_iff_mul-le {k = pitch} positive).1 (omega arith) in
                absurd (omega arith)))

            pub done_room : 4 * height - 1 ≤ (room - row_size alpha width) / pitch → done ≡ image_refusal alpha size format width height pitch room
            unfolding roomy
            done_room l =
                let k : (4 * height - 1) * pitch ≤ room - row_size alpha width = (le-div_iff_mul-le {k = pitch} positive).0 l in
                let c : (4 * height - 1) * pitch ≡ pitch * (4 * height - 1) = mul_comm (4 * height - 1) pitch in
                let e : pitch * (4 * height - 1) + row_size alpha width ≤ room = omega arith in
                by_room true (rw (some, le-leb (row_size alpha width) pitch p, le-leb (pitch * (4 * height - 1) + row_size alpha width) room e)) refl

  -- what "done" says
  pub record Known : Type 0 where
    pub format_known : format ≤ 1
    pub fits : Fitting alpha width height pitch size room

  pub known : image_refusal alpha size format width height pitch room ≡ done → Known
  unfolding image_refusal roomy
  known z =
      let none = none_met ((ltb 1 format, bad_format) ∷ (not (eqb size (block_size * (width * height))), blocks_misfit) ∷ (not (roomy alpha width height pitch room), short_output) ∷ []) tt z in
      let parts = parted (not-false (roomy alpha width height pitch room) none.1.1.0) in
      record {
        format_known = ltb-false 1 format none.0;
        fits = record {
          bytes = eqb-true size (16 * (width * height)) (not-false (eqb size (block_size * (width * height))) none.1.0);
          pitched = λ some. leb-true _ _ (parts some).0;
          enough = λ some. leb-true _ _ (parts some).1;
        };
      }
    where
      parted : roomy alpha width height pitch room ≡ true → 0 < width * height
          → (leb (row_size alpha width) pitch ≡ true) × (leb (pitch * (4 * height - 1) + row_size alpha width) room ≡ true)
      parted r some =
          both_true (leb (row_size alpha width) pitch) (leb (pitch * (4 * height - 1) + row_size alpha width) room)
          (rw (ne_eqb (width * height) 0 (λ e. omega arith)) at r)

-- ---- the outcome

module _ {alpha : Bool} {blocks : List ℕ} {width height format : ℕ} {out : List ℕ} {pitch : ℕ} {r : FacePixels} {after : List ℕ}
    (p : ImagePainted alpha blocks width height format out pitch r after) where
  pub one_outcome : {s : FacePixels} {other : List ℕ} → ImagePainted alpha blocks width height format out pitch s other → (r ≡ s) × (after ≡ other)
  one_outcome q = (p.answers ∙ sym q.answers, p.holds ∙ sym q.holds)

  -- a refusal leaves every lent value as it was, and counts none
  pub silent : {n : ℕ} → image_refusal alpha (length blocks) format width height pitch (length out) ≡ suc n → (after ≡ out) × (r.infinite ≡ 0)
  silent z = (p.holds ∙ rw z, ap (λ (x : FacePixels). x.infinite) p.answers ∙ rw z)

  module _ (z : image_refusal alpha (length blocks) format width height pitch (length out) ≡ done) where
    fits : Fitting alpha width height pitch (length blocks) (length out)
    fits = (known alpha (length blocks) format width height pitch (length out) z).fits

    -- S-33: the lent values, in words
    pub shown : FaceShown (is_signed format) alpha blocks width height pitch out after
    shown = rw (p.holds, z) (is_shown (is_signed format) alpha blocks width height pitch out fits)

    -- red, green and blue of pixel (x, y), from the 48 values of its block
    module _ (x y c : ℕ) (hx : x < 4 * width) (hy : y < 4 * height) (hc : c < 3) where
      low : c < lanes alpha
      low = let l = lanes_low alpha in omega arith

      pub colour : get_or after (pitch * y + (lanes alpha * x + c)) 0
          ≡ get_or (pixels_of (is_signed format) (block_at blocks (width * (y / 4) + x / 4))) (3 * (4 * (y % 4) + x % 4) + c) 0
      unfolding lane_at lane_of
      colour = shown.pixel x y c hx hy low ∙ rw (lt-ltb c 3 hc)

      block_there : width * (y / 4) + x / 4 < blocks_in blocks
      block_there =
          let l = block_low alpha width height pitch x y hx hy in
          let b : length blocks ≡ 16 * (width * height) = fits.bytes in
          omega arith

      -- .. which is what the call over a run of the same blocks writes of it
      pub as_run : {lent : List ℕ} {s : BlocksPixels} {run : List ℕ} → RunPainted blocks format lent s run → run_refusal format (length blocks) (length lent) ≡ done
          → get_or after (pitch * y + (lanes alpha * x + c)) 0 ≡ get_or run (48 * (width * (y / 4) + x / 4) + (3 * (4 * (y % 4) + x % 4) + c)) 0
      as_run {run = run} q d =
          let n = width * (y / 4) + x / 4 in
          let j = 3 * (4 * (y % 4) + x % 4) + c in
          let l : j < 48 = omega arith in
          colour ∙ ap (λ (t : List ℕ). get_or t j 0) (sym (block_by_block q d n block_there)) ∙ get_or-take 48 (drop (48 * n) run) j 0 l ∙ get_or-drop (48 * n) run j 0

      -- .. and what the pixels call writes of the block alone
      pub as_block : {lent : List ℕ} {s : Pixels} {left : List ℕ} → Painted (block_at blocks (width * (y / 4) + x / 4)) format lent s left
          → refusal_of format (length (block_at blocks (width * (y / 4) + x / 4))) (length lent) ≡ done
          → get_or after (pitch * y + (lanes alpha * x + c)) 0 ≡ get_or left (3 * (4 * (y % 4) + x % 4) + c) 0
      as_block {lent} q d =
          let block = block_at blocks (width * (y / 4) + x / 4) in
          let j = 3 * (4 * (y % 4) + x % 4) + c in
          let long : length (pixels_of (is_signed format) block) ≡ 48 = length_pixels (is_signed format) block in
          let l : j < length (pixels_of (is_signed format) block) = omega arith in
          colour
          ∙ sym (ap (λ (t : List ℕ). get_or t j 0) (written q d) ∙ get_or-append (pixels_of (is_signed format) block) (drop 48 lent) 0 j l)

    -- it counts what the call over a run counts
    pub counted_as_run : {lent : List ℕ} {s : BlocksPixels} {run : List ℕ} → RunPainted blocks format lent s run → run_refusal format (length blocks) (length lent) ≡ done
        → r.infinite ≡ s.infinite
    counted_as_run q d =
        ap (λ (x : FacePixels). x.infinite) p.answers ∙ (rw (z, d)) ∙ sym (ap (λ (x : BlocksPixels). x.infinite) q.answers)

-- ---- the two layouts show the same: red, green and blue are the same values, alpha is 1.0 in every pixel, and so is the answer the same

module _ {blocks : List ℕ} {width height format : ℕ} {out lent : List ℕ} {pitch step : ℕ} {r s : FacePixels} {after left : List ℕ}
    (p : ImagePainted false blocks width height format out pitch r after) (q : ImagePainted true blocks width height format lent step s left)
    (z : image_refusal false (length blocks) format width height pitch (length out) ≡ done)
    (d : image_refusal true (length blocks) format width height step (length lent) ≡ done) where
  pub same_answer : r ≡ s
  same_answer = p.answers ∙ (rw (z, d)) ∙ sym q.answers

  pub same_colours : (x y c : ℕ) → x < 4 * width → y < 4 * height → c < 3 → get_or left (step * y + (4 * x + c)) 0 ≡ get_or after (pitch * y + (3 * x + c)) 0
  same_colours x y c hx hy hc = colour q d x y c hx hy hc ∙ sym (colour p z x y c hx hy hc)

  pub all_opaque : (x y : ℕ) → x < 4 * width → y < 4 * height → get_or left (step * y + (4 * x + 3)) 0 ≡ opaque
  unfolding lane_at lane_of
  all_opaque x y hx hy = (shown q d).pixel x y 3 hx hy (omega arith)

-- ---- what each return shows

module _ (alpha : Bool) (blocks : List ℕ) (width height format : ℕ) (out : List ℕ) (pitch : ℕ) {number : ℕ}
    (e : number ≡ image_refusal alpha (length blocks) format width height pitch (length out)) where
  module _ (n : number ≡ done) where
    pub known_done : Known alpha (length blocks) format width height pitch (length out)
    known_done = known alpha (length blocks) format width height pitch (length out) (sym e ∙ n)

    pub painted_done : {infinite : ℕ} {after : List ℕ} → FaceWritten (is_signed format) alpha blocks width pitch (blocks_in blocks) out infinite after
        → ImagePainted alpha blocks width height format out pitch (record { answer = number; infinite = infinite }) after
    painted_done {infinite} {after} w =
        let z : image_refusal alpha (length blocks) format width height pitch (length out) ≡ done = sym e ∙ n in
        let fits = known_done.fits in
        let count : blocks_in blocks ≡ width * height = (let b : length blocks ≡ 16 * (width * height) = fits.bytes in omega arith) in
        let here : after ≡ image_in (is_signed format) alpha blocks width height pitch out =
        (rw count at w.holds) ∙ shown_is (is_signed format) alpha blocks width height pitch out fits (put_shown (is_signed format) alpha blocks width height pitch out fits) in
        record {
          answers = rw z (rw n (ap (λ (k : ℕ). record { answer = done; infinite = k }) w.counts));
          holds = rw z here;
        }
