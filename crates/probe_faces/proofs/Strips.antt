-- The values of a strip are those of four rows of the face. Assumes nothing.
use mathlib.Core.Path.{◌≡◌, ◌∙◌, refl, sym, ap}
use mathlib.Core.List.{List, [], ◌++◌, append-nil}
use Prim.Native.Nat.{ℕ, zero, suc, ◌+◌, ◌-◌, ◌*◌, ◌/◌, ◌%◌, ◌≤◌, ◌<◌}
use native.Mathlib.Omega.{arith}
use lib.ListN.{length, get_or, take, drop, length-drop}
use Rattle.std.specs.List.{between}
use Rattle.std.proofs.lemmas.List.{get_or-drop}
use Rattle.laws.proofs.Taken.{made_taken}
use Rattle.laws.specs.Made.{made, join}
use Rattle.laws.proofs.Rows.{length_made, get_d_made, made-cong, made-same, made_each}
use Rattle.probe.specs.Probe.{place_of, record_for, shown_in, triple_of, triple_at, triple_for}
use Rattle.probe.specs.Held.{RecordOf}
use Rattle.probe.proofs.Asking.{shown_length}
use Rattle.probe_faces.specs.Face.{row_value, face_row}
use Rattle.probe_faces.specs.Strip.{strip_block, strip_of, piece_value, strip_piece, strip_value, strip_row, pixel_row, four_rows}
use Rattle.laws.proofs.Joined.{run_value, run_length, run_fours}

-- ---- lengths

pub block_length : (store : List ℕ) (face row column : ℕ) → length (strip_block store face row column) ≡ 48
unfolding strip_block
block_length store face row column = shown_length store (record_for store (place_of face column row))

pub row_length : (store : List ℕ) (edge face y : ℕ) → length (face_row store edge face y) ≡ 12 * edge
unfolding face_row
row_length store edge face y = length_made (row_value store face y) (12 * edge)

pub strip_row_length : (strip : List ℕ) (edge k : ℕ) → length (strip_row strip edge k) ≡ 12 * edge
unfolding strip_row
strip_row_length strip edge k = length_made (strip_value strip k) (12 * edge)

pub four_length : (store : List ℕ) (edge face row : ℕ) → length (four_rows store edge face row) ≡ 48 * edge
unfolding four_rows pixel_row
four_length store edge face row =
    run_length (pixel_row store edge face row) (12 * edge) (λ k. row_length store edge face (4 * row + k)) 4 ∙ omega arith

-- ---- a strip's row is copied piece by piece

pub piece_copied : (strip part : List ℕ) (from : ℕ) → from + 12 ≤ length strip → part ≡ between from (from + 12) strip → part ≡ made (piece_value strip from) 12
unfolding piece_value
piece_copied strip part from h e =
    let size : from + 12 - from ≡ 12 = omega arith in
    let long : 12 ≤ length (drop from strip) = simp length-drop (omega arith) in
    e
    ∙ ap (λ (n : ℕ). take n (drop from strip)) size
    ∙ sym (made_taken (drop from strip) 12 long)
    ∙ made-cong (λ k. get_or (drop from strip) k 0) (λ x. get_or strip (from + x) 0) (λ k. get_or-drop from strip k 0) 12

pub piece_is : (strip out : List ℕ) {part : List ℕ} (column k : ℕ) → part ≡ made (piece_value strip (48 * column + 12 * k)) 12 ++ drop 12 out → part ≡ strip_piece strip k column ++ drop 12 out
unfolding strip_piece
piece_is strip out column k e = e

pub piece_length : (strip : List ℕ) (k column : ℕ) → length (strip_piece strip k column) ≡ 12
unfolding strip_piece
piece_length strip k column = length_made (piece_value strip (48 * column + 12 * k)) 12

pub pieces_row : (strip : List ℕ) (edge k : ℕ) → join (made (strip_piece strip k) edge) ≡ strip_row strip edge k
unfolding strip_row strip_value strip_piece piece_value
pieces_row strip edge k = made_each (strip_value strip k) (join (made (strip_piece strip k) edge)) (12 * edge) (run_length (strip_piece strip k) 12 (piece_length strip k) edge) value
  where
    value : (i : ℕ) → i < 12 * edge → get_or (join (made (strip_piece strip k) edge)) i 0 ≡ strip_value strip k i
    value i h =
        let here : 12 * (i / 12) + i % 12 ≡ i = omega arith in
        let there : 48 * (i / 12) + 12 * k + i % 12 ≡ 48 * (i / 12) + (12 * k + i % 12) = omega arith in
        let all = join (made (strip_piece strip k) edge) in
        ap (λ (l : List ℕ). get_or l i 0) (sym (append-nil all))
        ∙ ap (λ (j : ℕ). get_or (all ++ []) j 0) (sym here)
        ∙ run_value (strip_piece strip k) 12 (piece_length strip k) edge (i / 12) (i % 12) [] (omega arith) (omega arith)
        ∙ get_d_made (piece_value strip (48 * (i / 12) + 12 * k)) 12 (i % 12) 0 (omega arith)
        ∙ ap (λ (j : ℕ). get_or strip j 0) there

-- ---- a block that is decoded

pub strip_shown : (store : List ℕ) {face row column n : ℕ} (out : List ℕ) {part : List ℕ} → RecordOf store (place_of face column row) n → part ≡ shown_in store n ++ drop 48 out
    → part ≡ strip_block store face row column ++ drop 48 out
unfolding strip_block
strip_shown store out o e = e ∙ ap (λ (k : ℕ). shown_in store k ++ drop 48 out) o.is

-- ---- a value of a pixel

triple_value : (values : List ℕ) (p c : ℕ) → c < 3 → get_or (triple_of values p) c 0 ≡ get_or values (3 * p + c) 0
triple_value values p zero h = ap (λ (k : ℕ). get_or values k 0) (omega arith)
triple_value values p (suc zero) h = refl
triple_value values p (suc (suc zero)) h = refl
triple_value values p (suc (suc (suc c))) h = absurd (omega arith)

module _ (store : List ℕ) (edge face row k : ℕ) (h : k < 4) where
  row_value_lem : (i : ℕ) → row_value store face (4 * row + k) i ≡ get_or (strip_block store face row (i / 12)) (12 * k + i % 12) 0
  unfolding row_value triple_for triple_at strip_block
  row_value_lem i =
      let a : i / 3 / 4 ≡ i / 12 = omega arith in
      let b : (4 * row + k) / 4 ≡ row = omega arith in
      let c : (4 * row + k) % 4 ≡ k = omega arith in
      let d : 3 * (4 * k + i / 3 % 4) + i % 3 ≡ 12 * k + i % 12 = omega arith in
      triple_value (shown_in store (record_for store (place_of face (i / 3 / 4) ((4 * row + k) / 4))))
      (4 * ((4 * row + k) % 4) + i / 3 % 4) (i % 3) (omega arith)
      ∙ rw (a, b, c, d)

  -- a strip's row is the face's
  pub row_same : (strip rest : List ℕ) → strip ≡ strip_of store face row edge ++ rest → strip_row strip edge k ≡ pixel_row store edge face row k
  unfolding strip_row pixel_row face_row strip_value
  row_same strip rest e =
      made-same (strip_value strip k) (row_value store face (4 * row + k)) (12 * edge) (λ i l.
      ap (λ (t : List ℕ). get_or t (48 * (i / 12) + (12 * k + i % 12)) 0) e
      ∙ run_value (strip_block store face row) 48 (block_length store face row) edge (i / 12) (12 * k + i % 12) rest (omega arith) (omega arith)
      ∙ sym (row_value_lem i))

pub four_same : (store : List ℕ) (edge face row : ℕ) (strip rest : List ℕ) → strip ≡ strip_of store face row edge ++ rest
    → join (made (strip_row strip edge) 4) ≡ four_rows store edge face row
unfolding four_rows
four_same store edge face row strip rest e =
    ap join (made-same (strip_row strip edge) (pixel_row store edge face row) 4 (λ k h. row_same store edge face row k h strip rest e))

pub four_shown : (store : List ℕ) (edge face row : ℕ) (strip rest out : List ℕ) {part : List ℕ} → strip ≡ strip_of store face row edge ++ rest
    → part ≡ join (made (strip_row strip edge) 4) ++ out → part ≡ four_rows store edge face row ++ out
four_shown store edge face row strip rest out e q = q ∙ ap (λ (t : List ℕ). t ++ out) (four_same store edge face row strip rest e)

-- ---- the rows by fours are the rows

module _ (store : List ℕ) (edge face : ℕ) where
  fours : (row : ℕ) → four_rows store edge face row
      ≡ face_row store edge face (4 * row) ++ (face_row store edge face (4 * row + 1) ++ (face_row store edge face (4 * row + 2) ++ face_row store edge face (4 * row + 3)))
  unfolding four_rows pixel_row made
  fours row = let z : 4 * row + 0 ≡ 4 * row = omega arith in rw z (simp append-nil)

  pub by_fours : (n : ℕ) → join (made (four_rows store edge face) n) ≡ join (made (face_row store edge face) (4 * n))
  by_fours n = sym (run_fours (face_row store edge face) (four_rows store edge face) fours n)
