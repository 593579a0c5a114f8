-- Rows of pixels that are cropped: the loop that copies them, and what they are. Assumes nothing.
use mathlib.Core.Path.{◌≡◌, ◌∙◌, sym, ap}
use mathlib.Core.List.{List, [], ◌++◌, append-nil}
use Prim.Native.Nat.{ℕ, ◌+◌, ◌-◌, ◌*◌, ◌≤◌, ◌<◌}
use native.Mathlib.Nat.{mul-add, mul-le-mul_left}
use native.Mathlib.Omega.{arith}
use lib.ListN.{length, take, drop, length-drop}
use lib.Seq.{paste, take-take, length-take-le}
use Rattle.laws.specs.Made.{made, join}
use Rattle.laws.proofs.Rows.{made-same}
use Rattle.laws.proofs.Joined.{run_at_lem}
use Rattle.pfm.specs.File.{pixel_at, row_at, row_up, body_of}
use Rattle.pfm.specs.Bands.{band_at, band_up, bands_of}
use Rattle.pfm.proofs.Whole.{body_bands, length_at, length_row}
use Rattle.pfm_bands.specs.Bands.{cropped_row, cropped_rows}
use Rattle.pfm_bands.proofs.Runs.{run_take, Filled, fill_end}

-- ---- the loop

-- where row i of those that stay is read and written
pub record Turn (across width rows i lines out : ℕ) : Type 0 where
  pub from : 48 * across * (4 - rows + i) + 12 * width ≤ lines
  pub first : 48 * across * (4 - rows + i) ≤ 147456
  pub to : 12 * width * i + 12 * width ≤ out
  pub place : 12 * width * i ≤ 147456

pub turn : (across width rows i lines out : ℕ) → i < rows → rows ≤ 4 → across ≤ 1024 → width ≤ 4 * across → 192 * across ≤ lines → 12 * width * rows ≤ out
    → Turn across width rows i lines out
turn across width rows i lines out h r a w l o =
    let m : 48 * across * (4 - rows + i) ≤ 48 * across * 3 = mul-le-mul_left (48 * across) (omega arith) in
    let n : 12 * width * (i + 1) ≤ 12 * width * rows = mul-le-mul_left (12 * width) (omega arith) in
    let e : 12 * width * (i + 1) ≡ 12 * width * i + 12 * width * 1 = mul-add (12 * width) i 1 in
    let k : 12 * width * i ≤ 12 * width * 3 = mul-le-mul_left (12 * width) (omega arith) in
    record { from = omega arith; first = omega arith; to = omega arith; place = omega arith }

module _ (lines : List ℕ) (across width rows : ℕ) where
  pub row_length : (i : ℕ) → 48 * across * (4 - rows + i) + 12 * width ≤ length lines → length (cropped_row lines across width rows i) ≡ 12 * width
  unfolding cropped_row
  row_length i h =
      length-take-le (12 * width) (drop (48 * across * (4 - rows + i)) lines) (omega (arith, length-drop (48 * across * (4 - rows + i)) lines))

  pub row_copied : (out after : List ℕ) (i : ℕ) → after ≡ paste out (12 * width * i) (drop (48 * across * (4 - rows + i)) lines) (12 * width)
      → after ≡ (take (12 * width * i) out ++ cropped_row lines across width rows i) ++ drop (12 * width * i + 12 * width) out
  unfolding cropped_row
  row_copied out after i e = e

  pub rows_copied : {out₀ out : List ℕ} (i : ℕ) → i ≤ rows → rows ≤ i → Filled (cropped_row lines across width rows) (12 * width) out₀ out i
      → out ≡ cropped_rows lines across width rows ++ drop (12 * width * rows) out₀
  unfolding cropped_rows
  rows_copied i l h c = fill_end (cropped_row lines across width rows) (12 * width) rows i l h c

-- ---- what the rows are

module _ (band : List ℕ) (format across : ℕ) where
  -- a row of blocks is a picture of four rows of pixels
  four_rows : band_at band format 0 across ≡ body_of band format across (4 * across) 4
  unfolding bands_of band_up made
  four_rows =
      let z : across * 0 ≡ 0 = omega arith in
      sym (body_bands band format across 1 ∙ append-nil (band_up band format across 1 0) ∙ ap (λ (n : ℕ). band_at band format n across) z)

  module _ (width rows : ℕ) (w : width ≤ 4 * across) (r : rows ≤ 4) where
    row_cropped : (i : ℕ) → i < rows → (rest : List ℕ)
        → take (12 * width) (drop (48 * across * (4 - rows + i)) (body_of band format across (4 * across) 4 ++ rest)) ≡ row_up band format across width rows i
    unfolding body_of row_up row_at
    row_cropped i h rest =
        let n = 4 - rows + i in
        let all = body_of band format across (4 * across) 4 ++ rest in
        let size : 12 * (4 * across) ≡ 48 * across = omega arith in
        let y : 4 - 1 - (4 - rows + i) ≡ rows - 1 - i = omega arith in
        let one : take (48 * across) (drop (48 * across * n) all) ≡ row_up band format across (4 * across) 4 n =
        ap (λ (k : ℕ). take k (drop (k * n) all)) (sym size)
        ∙ run_at_lem (row_up band format across (4 * across) 4) (12 * (4 * across)) (length_row band format across (4 * across) 4) 4 n rest (omega arith) in
        let pixel : ℕ → List ℕ = pixel_at band format across (rows - 1 - i) in
        sym (take-take (12 * width) (48 * across) (drop (48 * across * n) all) (omega arith))
        ∙ ap (take (12 * width)) (one ∙ ap (row_at band format across (4 * across)) y ∙ sym (append-nil (join (made pixel (4 * across)))))
        ∙ run_take pixel 12 (length_at band format across (rows - 1 - i)) width (4 * across) [] w

    pub rows_cropped : (rest : List ℕ) {lines : List ℕ} → lines ≡ band_at band format 0 across ++ rest → cropped_rows lines across width rows ≡ body_of band format across width rows
    unfolding cropped_rows cropped_row body_of
    rows_cropped rest {lines} e =
        ap join (made-same (cropped_row lines across width rows) (row_up band format across width rows) rows
        (λ i h. ap (λ (t : List ℕ). take (12 * width) (drop (48 * across * (4 - rows + i)) t)) (e ∙ ap (λ (t : List ℕ). t ++ rest) four_rows) ∙ row_cropped i h rest))
