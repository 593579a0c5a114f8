-- Scan lines that are cropped: the stores of one, the loop over them, and what they are. Assumes nothing.
use mathlib.Core.Path.{◌≡◌, ◌∙◌, sym, ap, ap₂}
use mathlib.Core.List.{List, [], ◌++◌, append-nil}
use Prim.Native.Nat.{ℕ, ◌+◌, ◌*◌, ◌≤◌, ◌<◌}
use native.Mathlib.Nat.{mul-add, mul-le-mul_left}
use native.Mathlib.Omega.{arith}
use lib.ListN.{length, take, drop, length-append, length-drop}
use lib.Seq.{sets, sets-eq, paste, length-take-le, length-sets}
use Rattle.laws.specs.Made.{made, join}
use Rattle.laws.proofs.Rows.{made-same}
use Rattle.laws.proofs.Joined.{run_length, run_at_lem}
use Rattle.pfm_floats.proofs.Stores.{sets_append}
use Rattle.laws.proofs.Taken.{part_of_part}
use Rattle.pfm_bands.proofs.Runs.{run_take, Filled, fill_end}
use Rattle.dds.specs.Dds.{blocks_along}
use Rattle.exr_header.specs.Header.{line_length}
use Rattle.exr.specs.File.{half_at, channel_at, head_of}
use Rattle.exr.specs.Bands.{run_at, band_line, band_at}
use Rattle.exr.proofs.Bands.{length_head}
use Rattle.exr.proofs.Whole.{channel_run, length_half, length_channel}
use Rattle.exr.proofs.Places.{behind_head, behind_blue, behind_green}
use Rattle.exr_bands.specs.Bands.{piece_line, piece_of, cropped_at, cropped_line, cropped_lines}

-- ---- one line

-- a copy is a run of stores
paste_sets : (out s : List ℕ) (at size : ℕ) → size ≤ length s → at + size ≤ length out → paste out at s size ≡ sets out at (take size s)
paste_sets out s at size l h =
    let e : length (take size s) ≡ size = length-take-le size s l in
    sym (sets-eq (take size s) out at (omega arith) ∙ ap (λ (n : ℕ). (take at out ++ take size s) ++ drop (at + n) out) e)

module _ (lines : List ℕ) (at across width y : ℕ) (w : width ≤ 4 * across) (inside : at + (8 + 24 * across) ≤ length lines) where
  enough : (from : ℕ) → from ≤ at + 8 + 16 * across → 2 * width ≤ length (drop from lines)
  enough from h = omega (arith, length-drop from lines)

  long : (from : ℕ) → from ≤ at + 8 + 16 * across → length (take (2 * width) (drop from lines)) ≡ 2 * width
  long from h = length-take-le (2 * width) (drop from lines) (enough from h)

  pub cropped_length : length (cropped_at lines at across width y) ≡ 8 + 6 * width
  unfolding cropped_at
  cropped_length =
      simp length-append
      (omega (arith, length_head width y, long (at + 8) (omega arith), long (at + 8 + 8 * across) (omega arith), long (at + 8 + 16 * across) (omega arith)))

  pub line_stores : (l l1 l2 l3 l4 : List ℕ) (to : ℕ) → to + (8 + 6 * width) ≤ length l → l1 ≡ sets l to (head_of width y)
      → l2 ≡ paste l1 (to + 8) (drop (at + 8) lines) (2 * width) → l3 ≡ paste l2 (to + 8 + 2 * width) (drop (at + 8 + 8 * across) lines) (2 * width)
      → l4 ≡ paste l3 (to + 8 + 2 * width + 2 * width) (drop (at + 8 + 16 * across) lines) (2 * width)
      → l4 ≡ sets l to (cropped_at lines at across width y)
  unfolding cropped_at
  line_stores l l1 l2 l3 l4 to room e1 p2 p3 p4 =
      let h = head_of width y in
      let b = take (2 * width) (drop (at + 8) lines) in
      let g = take (2 * width) (drop (at + 8 + 8 * across) lines) in
      let r = take (2 * width) (drop (at + 8 + 16 * across) lines) in
      let k1 : length l1 ≡ length l = ap length e1 ∙ length-sets l to h in
      let e2 : l2 ≡ sets l1 (to + 8) b = p2 ∙ paste_sets l1 (drop (at + 8) lines) (to + 8) (2 * width) (enough (at + 8) (omega arith)) (omega arith) in
      let k2 : length l2 ≡ length l = ap length e2 ∙ length-sets l1 (to + 8) b ∙ k1 in
      let e3 : l3 ≡ sets l2 (to + 8 + 2 * width) g =
      p3 ∙ paste_sets l2 (drop (at + 8 + 8 * across) lines) (to + 8 + 2 * width) (2 * width) (enough (at + 8 + 8 * across) (omega arith)) (omega arith) in
      let k3 : length l3 ≡ length l = ap length e3 ∙ length-sets l2 (to + 8 + 2 * width) g ∙ k2 in
      let e4 : l4 ≡ sets l3 (to + 8 + 2 * width + 2 * width) r =
      p4 ∙ paste_sets l3 (drop (at + 8 + 16 * across) lines) (to + 8 + 2 * width + 2 * width) (2 * width) (enough (at + 8 + 16 * across) (omega arith)) (omega arith) in
      e4 ∙ ap (λ (t : List ℕ). sets t (to + 8 + 2 * width + 2 * width) r) e3
      ∙ sets_append g r l2 (to + 8 + 2 * width) (to + 8 + 2 * width + 2 * width) (omega (arith, long (at + 8 + 8 * across) (omega arith)))
      ∙ ap (λ (t : List ℕ). sets t (to + 8 + 2 * width) (g ++ r)) e2
      ∙ sets_append b (g ++ r) l1 (to + 8) (to + 8 + 2 * width) (omega (arith, long (at + 8) (omega arith)))
      ∙ ap (λ (t : List ℕ). sets t (to + 8) (b ++ (g ++ r))) e1
      ∙ sets_append h (b ++ (g ++ r)) l to (to + 8) (omega (arith, length_head width y))

-- ---- the loop

-- where line `row` is read and written
pub record Turn (across width row lines out : ℕ) : Type 0 where
  pub from : (8 + 24 * across) * row + (8 + 24 * across) ≤ lines
  pub first : (8 + 24 * across) * row ≤ 73752
  pub to : (8 + 6 * width) * row + (8 + 6 * width) ≤ out
  pub place : (8 + 6 * width) * row ≤ 73752

pub turn : (across width rows row lines out : ℕ) → row < rows → rows ≤ 4 → across ≤ 1024 → width ≤ 4 * across → 32 + 96 * across ≤ lines
    → (8 + 6 * width) * rows ≤ out → Turn across width row lines out
turn across width rows row lines out h r a w l o =
    let s = 8 + 24 * across in
    let t = 8 + 6 * width in
    let m : (8 + 24 * across) * row ≤ (8 + 24 * across) * 3 = mul-le-mul_left (8 + 24 * across) (omega arith) in
    let k : (8 + 6 * width) * row ≤ (8 + 6 * width) * 3 = mul-le-mul_left (8 + 6 * width) (omega arith) in
    let n : (8 + 6 * width) * (row + 1) ≤ (8 + 6 * width) * rows = mul-le-mul_left (8 + 6 * width) (omega arith) in
    let e : (8 + 6 * width) * (row + 1) ≡ (8 + 6 * width) * row + (8 + 6 * width) * 1 = mul-add (8 + 6 * width) row 1 in
    record { from = omega arith; first = omega arith; to = omega arith; place = omega arith }

module _ (lines : List ℕ) (across width first : ℕ) where
  pub line_length_lem : (row : ℕ) → width ≤ 4 * across → (8 + 24 * across) * row + (8 + 24 * across) ≤ length lines
      → length (cropped_line lines across width first row) ≡ 8 + 6 * width
  unfolding cropped_line
  line_length_lem row w h = cropped_length lines ((8 + 24 * across) * row) across width (first + row) w h

  pub line_stored : (out after : List ℕ) (row : ℕ) → width ≤ 4 * across → (8 + 24 * across) * row + (8 + 24 * across) ≤ length lines
      → (8 + 6 * width) * row + (8 + 6 * width) ≤ length out
      → after ≡ sets out ((8 + 6 * width) * row) (cropped_at lines ((8 + 24 * across) * row) across width (first + row))
      → after ≡ (take ((8 + 6 * width) * row) out ++ cropped_line lines across width first row) ++ drop ((8 + 6 * width) * row + (8 + 6 * width)) out
  unfolding cropped_line
  line_stored out after row w h room e =
      let x = cropped_at lines ((8 + 24 * across) * row) across width (first + row) in
      let n : length (cropped_at lines ((8 + 24 * across) * row) across width (first + row)) ≡ 8 + 6 * width =
      cropped_length lines ((8 + 24 * across) * row) across width (first + row) w h in
      e ∙ sets-eq x out ((8 + 6 * width) * row) (omega arith) ∙ ap (λ (k : ℕ). (take ((8 + 6 * width) * row) out ++ x) ++ drop ((8 + 6 * width) * row + k) out) n

  pub lines_stored : {out₀ out : List ℕ} (rows row : ℕ) → row ≤ rows → rows ≤ row → Filled (cropped_line lines across width first) (8 + 6 * width) out₀ out row
      → out ≡ cropped_lines lines across width first rows ++ drop ((8 + 6 * width) * rows) out₀
  unfolding cropped_lines
  lines_stored rows row l h c = fill_end (cropped_line lines across width first) (8 + 6 * width) rows row l h c

-- ---- what the lines are

pub piece_length : (band : List ℕ) (format across width first row : ℕ) → length (piece_line band format across width first row) ≡ line_length width
unfolding piece_line line_length
piece_length band format across width first row =
    let c : (channel : ℕ) → length (channel_at band format across width channel row) ≡ 2 * width = λ channel. length_channel band format across width channel row in
    simp length-append (omega (arith, length_head width (first + row), c 0, c 1, c 2))

pub pieces_length : (band : List ℕ) (format width first rows : ℕ) → length (piece_of band format width first rows) ≡ line_length width * rows
unfolding piece_of
pieces_length band format width first rows =
    run_length (piece_line band format (blocks_along width) width first) (line_length width) (piece_length band format (blocks_along width) width first) rows

module _ (band : List ℕ) (format across first : ℕ) where
  run_channel : (channel row : ℕ) → row < 4 → run_at band format 0 across channel row ≡ channel_at band format across (4 * across) channel row
  run_channel channel row h =
      let z : across * 0 ≡ 0 = omega arith in
      let y : 4 * 0 + row ≡ row = omega arith in
      ap (λ (n : ℕ). run_at band format n across channel row) (sym z) ∙ sym (channel_run band format across channel 0 row h)
      ∙ ap (channel_at band format across (4 * across) channel) y

  band_line_lem : (row : ℕ) → row < 4 → band_line band format 0 across row (first + row) ≡ piece_line band format across (4 * across) first row
  unfolding band_line piece_line
  band_line_lem row h =
      ap (λ (t : List ℕ). head_of (4 * across) (first + row) ++ t)
      (ap₂ (λ (s t : List ℕ). s ++ t) (run_channel 2 row h) (ap₂ (λ (s t : List ℕ). s ++ t) (run_channel 1 row h) (run_channel 0 row h)))

  wide_length : (row : ℕ) → length (piece_line band format across (4 * across) first row) ≡ 8 + 24 * across
  unfolding line_length
  wide_length row = let e : length (piece_line band format across (4 * across) first row) ≡ 8 + 6 * (4 * across) = piece_length band format across (4 * across) first row in omega arith

  -- a row of blocks is four lines
  four_lines : band_at band format 0 across first ≡ join (made (piece_line band format across (4 * across) first) 4)
  unfolding band_at made
  four_lines =
      let z : first ≡ first + 0 = omega arith in
      let l : ℕ → List ℕ = piece_line band format across (4 * across) first in
      ap₂ (λ (s t : List ℕ). s ++ t) (ap (band_line band format 0 across 0) z ∙ band_line_lem 0 (omega arith))
      (ap₂ (λ (s t : List ℕ). s ++ t) (band_line_lem 1 (omega arith))
      (ap₂ (λ (s t : List ℕ). s ++ t) (band_line_lem 2 (omega arith)) (band_line_lem 3 (omega arith) ∙ sym (append-nil (l 3)))))

  module _ (width : ℕ) (w : width ≤ 4 * across) (rest : List ℕ) {lines : List ℕ} (e : lines ≡ band_at band format 0 across first ++ rest) where
    line_at : (row : ℕ) → row < 4 → take (8 + 24 * across) (drop ((8 + 24 * across) * row) lines) ≡ piece_line band format across (4 * across) first row
    line_at row h =
        ap (λ (t : List ℕ). take (8 + 24 * across) (drop ((8 + 24 * across) * row) t)) (e ∙ ap (λ (t : List ℕ). t ++ rest) four_lines)
        ∙ run_at_lem (piece_line band format across (4 * across) first) (8 + 24 * across) wide_length 4 row rest h

    -- a channel that begins `from` bytes into the line
    channel_cropped : (row channel from : ℕ) (tail : List ℕ) → row < 4 → from + 2 * width ≤ 8 + 24 * across
        → drop from (piece_line band format across (4 * across) first row) ≡ channel_at band format across (4 * across) channel row ++ tail
        → take (2 * width) (drop ((8 + 24 * across) * row + from) lines) ≡ channel_at band format across width channel row
    unfolding channel_at
    channel_cropped row channel from tail h fits d =
        sym (part_of_part lines ((8 + 24 * across) * row) from (8 + 24 * across) (2 * width) fits)
        ∙ ap (λ (t : List ℕ). take (2 * width) (drop from t)) (line_at row h)
        ∙ ap (take (2 * width)) d
        ∙ run_take (half_at band format across channel row) 2 (length_half band format across channel row) width (4 * across) tail w

    line_cropped : (row : ℕ) → row < 4 → cropped_line lines across width first row ≡ piece_line band format across width first row
    unfolding cropped_line cropped_at piece_line
    line_cropped row h =
        let n : 2 * (4 * across) ≡ 8 * across = omega arith in
        let two : 8 + 2 * (4 * across) + 2 * (4 * across) ≡ 8 + 16 * across = omega arith in
        let at = (8 + 24 * across) * row in
        let head = head_of (4 * across) (first + row) in
        let c : ℕ → List ℕ = λ channel. channel_at band format across (4 * across) channel row in
        let long : (channel : ℕ) → length (channel_at band format across (4 * across) channel row) ≡ 2 * (4 * across) = λ channel. length_channel band format across (4 * across) channel row in
        let l : length (head_of (4 * across) (first + row)) ≡ 8 = length_head (4 * across) (first + row) in
        let place-1 : at + 8 + 8 * across ≡ at + (8 + 8 * across) = omega arith in
        let place-2 : at + 8 + 16 * across ≡ at + (8 + 16 * across) = omega arith in
        let blue = channel_cropped row 2 8 (c 1 ++ c 0) h (omega arith) (behind_head head (c 2) (c 1) (c 0) (2 * (4 * across)) l (long 2) (long 1)) in
        let green = channel_cropped row 1 (8 + 8 * across) (c 0) h (omega arith)
        (ap (λ (k : ℕ). drop (8 + k) (head ++ (c 2 ++ (c 1 ++ c 0)))) (sym n) ∙ behind_blue head (c 2) (c 1) (c 0) (2 * (4 * across)) l (long 2) (long 1)) in
        let red = channel_cropped row 0 (8 + 16 * across) [] h (omega arith)
        (ap (λ (k : ℕ). drop k (head ++ (c 2 ++ (c 1 ++ c 0)))) (sym two) ∙ behind_green head (c 2) (c 1) (c 0) (2 * (4 * across)) l (long 2) (long 1) ∙ sym (append-nil (c 0))) in
        ap (λ (t : List ℕ). head_of width (first + row) ++ t)
        (ap₂ (λ (s t : List ℕ). s ++ t) blue
        (ap₂ (λ (s t : List ℕ). s ++ t) (ap (λ (k : ℕ). take (2 * width) (drop k lines)) place-1 ∙ green) (ap (λ (k : ℕ). take (2 * width) (drop k lines)) place-2 ∙ red)))

    pub lines_cropped : (rows : ℕ) → rows ≤ 4 → cropped_lines lines across width first rows ≡ join (made (piece_line band format across width first) rows)
    unfolding cropped_lines
    lines_cropped rows r =
        ap join (made-same (cropped_line lines across width first) (piece_line band format across width first) rows (λ row h. line_cropped row (omega arith)))
