-- A row of blocks: the lengths of its parts, and the loop that fills four scan lines. Assumes nothing.
use mathlib.Core.Path.{◌≡◌, ◌∙◌, refl, ap, ap₂}
use mathlib.Core.List.{List, [], ◌++◌, append_assoc}
use Prim.Native.Nat.{ℕ, ◌+◌, ◌*◌, ◌≤◌, ◌<◌}
use native.Mathlib.Nat.{mul-le-mul, mul-le-mul_left, mul-add}
use native.Mathlib.Omega.{arith}
use lib.ListN.{length, get_or, take, drop, length-append, length-drop}
use lib.Seq.{sets, drop-drop, length-take-le}
use Rattle.laws.proofs.Joined.{run_length, run_room}
use Rattle.laws.specs.Bit.{low_bytes}
use Rattle.laws.proofs.Digits.{length_low}
use Rattle.bcn_spec.specs.Bits.{block_at}
use Rattle.bc6h_spec.specs.Picture.{is_signed}
use Rattle.bc6h_spec.specs.Block.{pixels_of}
use Rattle.pfm_floats.proofs.Stores.{sets_append}
use Rattle.pfm.proofs.Lines.{four_sets_lem}
use Rattle.pfm.proofs.Bands.{parts}
use Rattle.exr.specs.File.{head_of}
use Rattle.exr.specs.Bands.{quarter_of, four_sets, channel_sets, block_sets, head_sets, cell_at, run_at, band_line, band_at, band_of}
use Rattle.exr.proofs.Lines.{line_upto, line_start, line_length_lem, line_step, line_end, twelve_sets}

-- ---- lengths

pub length_head : (width y : ℕ) → length (head_of width y) ≡ 8
unfolding head_of low_bytes
length_head width y = refl

pub length_quarter : (values : List ℕ) (channel row : ℕ) → length (quarter_of values channel row) ≡ 8
unfolding quarter_of low_bytes
length_quarter values channel row = refl

pub length_cell : (blocks : List ℕ) (format first channel row column : ℕ) → length (cell_at blocks format first channel row column) ≡ 8
unfolding cell_at
length_cell blocks format first channel row column = length_quarter _ channel row

pub length_run : (blocks : List ℕ) (format first across channel row : ℕ) → length (run_at blocks format first across channel row) ≡ 8 * across
unfolding run_at
length_run blocks format first across channel row = run_length (cell_at blocks format first channel row) 8 (length_cell blocks format first channel row) across

pub length_band_line : (blocks : List ℕ) (format first across row y : ℕ) → length (band_line blocks format first across row y) ≡ 8 + 24 * across
unfolding band_line
length_band_line blocks format first across row y =
    let r : (channel : ℕ) → length (run_at blocks format first across channel row) ≡ 8 * across = λ channel. length_run blocks format first across channel row in
    simp length-append (omega (arith, length_head (4 * across) y, r 0, r 1, r 2))

pub length_band : (blocks : List ℕ) (format first across y : ℕ) → length (band_at blocks format first across y) ≡ 32 + 96 * across
unfolding band_at
length_band blocks format first across y =
    let l : (row z : ℕ) → length (band_line blocks format first across row z) ≡ 8 + 24 * across = length_band_line blocks format first across in
    simp length-append (omega (arith, l 0 y, l 1 (y + 1), l 2 (y + 2), l 3 (y + 3)))

pub length_of : (blocks : List ℕ) (format across n : ℕ) → length (band_of blocks format across n) ≡ 32 + 96 * across
unfolding band_of
length_of blocks format across n = length_band blocks format (across * n) across (4 * n)

-- ---- stores one after the other

pub four_halves : (values : List ℕ) (channel row : ℕ) (l l1 l2 l3 l4 : List ℕ) (n : ℕ) → l1 ≡ sets l n (low_bytes 2 (get_or values (3 * (4 * row) + channel) 0))
    → l2 ≡ sets l1 (n + 2) (low_bytes 2 (get_or values (3 * (4 * row + 1) + channel) 0)) → l3 ≡ sets l2 (n + 4) (low_bytes 2 (get_or values (3 * (4 * row + 2) + channel) 0))
    → l4 ≡ sets l3 (n + 6) (low_bytes 2 (get_or values (3 * (4 * row + 3) + channel) 0)) → l4 ≡ sets l n (quarter_of values channel row)
unfolding quarter_of
four_halves values channel row l l1 l2 l3 l4 n a b c d =
    let at : ℕ → List ℕ = λ k. low_bytes 2 (get_or values k 0) in
    let long : (k : ℕ) → length (low_bytes 2 (get_or values k 0)) ≡ 2 = λ k. length_low 2 (get_or values k 0) in
    let p = at (3 * (4 * row) + channel) in
    let q = at (3 * (4 * row + 1) + channel) in
    let s = at (3 * (4 * row + 2) + channel) in
    let t = at (3 * (4 * row + 3) + channel) in
    d ∙ ap (λ (x : List ℕ). sets x (n + 6) t) c ∙ sets_append s t l2 (n + 4) (n + 6) (omega (arith, long (3 * (4 * row + 2) + channel)))
    ∙ ap (λ (x : List ℕ). sets x (n + 4) (s ++ t)) b ∙ sets_append q (s ++ t) l1 (n + 2) (n + 4) (omega (arith, long (3 * (4 * row + 1) + channel)))
    ∙ ap (λ (x : List ℕ). sets x (n + 2) (q ++ (s ++ t))) a ∙ sets_append p (q ++ (s ++ t)) l n (n + 2) (omega (arith, long (3 * (4 * row) + channel)))

-- four stores, a stride apart
pub four_stores : (stride : ℕ) (l l1 l2 l3 l4 p q r s : List ℕ) (at : ℕ) → l1 ≡ sets l at p → l2 ≡ sets l1 (at + stride) q → l3 ≡ sets l2 (at + 2 * stride) r
    → l4 ≡ sets l3 (at + 3 * stride) s → l4 ≡ four_sets l at stride p q r s
four_stores stride l l1 l2 l3 l4 p q r s at a b c d =
    d ∙ ap (λ (x : List ℕ). sets x (at + 3 * stride) s)
    (c ∙ ap (λ (x : List ℕ). sets x (at + 2 * stride) r) (b ∙ ap (λ (x : List ℕ). sets x (at + stride) q) a))

pub block_stores : (values : List ℕ) (across column : ℕ) (l l1 l2 l3 : List ℕ) → l1 ≡ channel_sets values 2 (8 + 24 * across) l (8 + 8 * column)
    → l2 ≡ channel_sets values 1 (8 + 24 * across) l1 (8 + 8 * column + 8 * across) → l3 ≡ channel_sets values 0 (8 + 24 * across) l2 (8 + 8 * column + 2 * (8 * across))
    → l3 ≡ block_sets values across l column
block_stores values across column l l1 l2 l3 a b c =
    c ∙ ap (λ (x : List ℕ). channel_sets values 0 (8 + 24 * across) x (8 + 8 * column + 2 * (8 * across)))
    (b ∙ ap (λ (x : List ℕ). channel_sets values 1 (8 + 24 * across) x (8 + 8 * column + 8 * across)) a)

pub head_stores : (width y : ℕ) {size : ℕ} (l l1 l2 : List ℕ) (n : ℕ) → size ≡ 6 * width → l1 ≡ sets l n (low_bytes 4 y) → l2 ≡ sets l1 (n + 4) (low_bytes 4 size)
    → l2 ≡ sets l n (head_of width y)
unfolding head_of
head_stores width y l l1 l2 n e a b = rw (a, e) at b ∙ sets_append (low_bytes 4 y) (low_bytes 4 (6 * width)) l n (n + 4) (omega (arith, length_low 4 y))

-- ---- the loop over a row of blocks

module _ (blocks : List ℕ) (format first across : ℕ) where
  -- line `row` of the four, with the first n blocks
  unfoldable pub row_upto : ℕ → List ℕ → ℕ → List ℕ
  row_upto row old n = line_upto (cell_at blocks format first 2 row) (cell_at blocks format first 1 row) (cell_at blocks format first 0 row) (8 * across) old n

  -- the four lines, and what is behind them
  unfoldable pub band_upto : List ℕ → ℕ → List ℕ
  band_upto out n =
      row_upto 0 (take (8 + 24 * across) out) n
      ++ (row_upto 1 (take (8 + 24 * across) (drop (8 + 24 * across) out)) n
      ++ (row_upto 2 (take (8 + 24 * across) (drop (8 + 24 * across) (drop (8 + 24 * across) out))) n
      ++ (row_upto 3 (take (8 + 24 * across) (drop (8 + 24 * across) (drop (8 + 24 * across) (drop (8 + 24 * across) out)))) n
      ++ drop (32 + 96 * across) out)))

  cell : (channel row n : ℕ) → length (cell_at blocks format first channel row n) ≡ 8
  cell channel row n = length_cell blocks format first channel row n

  module _ (row : ℕ) (old : List ℕ) (e : length old ≡ 8 + 24 * across) where
    long : length old ≡ 8 + 3 * (8 * across)
    long = omega arith

    row_start : old ≡ row_upto row old 0
    unfolding row_upto
    row_start = line_start _ _ _ (cell 2 row) (cell 1 row) (cell 0 row) (8 * across) old long

    row_length : (n : ℕ) → n ≤ across → length (row_upto row old n) ≡ 8 + 24 * across
    unfolding row_upto
    row_length n h = line_length_lem _ _ _ (cell 2 row) (cell 1 row) (cell 0 row) (8 * across) old long n (omega arith) ∙ omega arith

    row_step : (n : ℕ) → n < across
        → sets (sets (sets (row_upto row old n) (8 + 8 * n) (cell_at blocks format first 2 row n)) (8 + 8 * n + 8 * across) (cell_at blocks format first 1 row n))
        (8 + 8 * n + 2 * (8 * across)) (cell_at blocks format first 0 row n)
        ≡ row_upto row old (n + 1)
    unfolding row_upto
    row_step n h = line_step _ _ _ (cell 2 row) (cell 1 row) (cell 0 row) (8 * across) old long n (omega arith)

    row_end : (y : ℕ) → sets (row_upto row old across) 0 (head_of (4 * across) y) ≡ band_line blocks format first across row y
    unfolding row_upto band_line run_at
    row_end y = line_end _ _ _ (cell 2 row) (cell 1 row) (cell 0 row) (8 * across) old long (head_of (4 * across) y) (length_head (4 * across) y) across (omega arith)

  module _ (out : List ℕ) (room : 32 + 96 * across ≤ length out) where
    one : length (take (8 + 24 * across) out) ≡ 8 + 24 * across
    one = length-take-le (8 + 24 * across) out (omega arith)

    two : length (take (8 + 24 * across) (drop (8 + 24 * across) out)) ≡ 8 + 24 * across
    two = length-take-le (8 + 24 * across) (drop (8 + 24 * across) out) (let a = length-drop (8 + 24 * across) out in omega arith)

    three : length (take (8 + 24 * across) (drop (8 + 24 * across) (drop (8 + 24 * across) out))) ≡ 8 + 24 * across
    three =
        length-take-le (8 + 24 * across) (drop (8 + 24 * across) (drop (8 + 24 * across) out))
        (let a = length-drop (8 + 24 * across) out in let b = length-drop (8 + 24 * across) (drop (8 + 24 * across) out) in omega arith)

    four : length (take (8 + 24 * across) (drop (8 + 24 * across) (drop (8 + 24 * across) (drop (8 + 24 * across) out)))) ≡ 8 + 24 * across
    four =
        length-take-le (8 + 24 * across) (drop (8 + 24 * across) (drop (8 + 24 * across) (drop (8 + 24 * across) out)))
        (let a = length-drop (8 + 24 * across) out in
        let b = length-drop (8 + 24 * across) (drop (8 + 24 * across) out) in
        let c = length-drop (8 + 24 * across) (drop (8 + 24 * across) (drop (8 + 24 * across) out)) in
        omega arith)

    behind : drop (8 + 24 * across) (drop (8 + 24 * across) (drop (8 + 24 * across) (drop (8 + 24 * across) out))) ≡ drop (32 + 96 * across) out
    behind =
        let l = 8 + 24 * across in
        let e : l + l + l + l ≡ 32 + 96 * across = omega arith in
        ap (λ (t : List ℕ). drop l (drop l t)) (drop-drop l l out) ∙ ap (drop l) (drop-drop l (l + l) out) ∙ drop-drop l (l + l + l) out
        ∙ ap (λ (n : ℕ). drop n out) e

    -- nothing is stored yet
    pub band_start : out ≡ band_upto out 0
    unfolding band_upto
    band_start =
        let l = 8 + 24 * across in
        parts l out
        ∙ ap₂ (λ (s t : List ℕ). s ++ t) (row_start 0 (take l out) one)
        (ap₂ (λ (s t : List ℕ). s ++ t) (row_start 1 (take l (drop l out)) two)
        (ap₂ (λ (s t : List ℕ). s ++ t) (row_start 2 (take l (drop l (drop l out))) three)
        (ap₂ (λ (s t : List ℕ). s ++ t) (row_start 3 (take l (drop l (drop l (drop l out)))) four) behind)))

    -- the next block
    pub band_step : {values lent after : List ℕ} (n : ℕ) → n < across → lent ≡ band_upto out n → values ≡ pixels_of (is_signed format) (block_at blocks (first + n))
        → after ≡ block_sets values across lent n → after ≡ band_upto out (n + 1)
    unfolding band_upto cell_at
    band_step n h e v s =
        let l = 8 + 24 * across in
        let values = pixels_of (is_signed format) (block_at blocks (first + n)) in
        let q : ℕ → ℕ → List ℕ = quarter_of values in
        let k : (channel row : ℕ) → length (q channel row) ≡ 8 = length_quarter values in
        let o1 = take l out in
        let o2 = take l (drop l out) in
        let o3 = take l (drop l (drop l out)) in
        let o4 = take l (drop l (drop l (drop l out))) in
        s ∙ ap₂ (λ (x t : List ℕ). block_sets x across t n) v e
        ∙ twelve_sets (q 2) (q 1) (q 0) (row_upto 0 o1 n) (row_upto 1 o2 n) (row_upto 2 o3 n) (row_upto 3 o4 n) (drop (32 + 96 * across) out) l
        (8 + 8 * n) (8 + 8 * n + 8 * across) (8 + 8 * n + 2 * (8 * across))
        (row_length 0 o1 one n (omega arith)) (row_length 1 o2 two n (omega arith)) (row_length 2 o3 three n (omega arith)) (row_length 3 o4 four n (omega arith))
        (λ row. omega (arith, k 2 row)) (λ row. omega (arith, k 1 row)) (λ row. omega (arith, k 0 row))
        ∙ ap₂ (λ (a b : List ℕ). a ++ b) (row_step 0 o1 one n h)
        (ap₂ (λ (a b : List ℕ). a ++ b) (row_step 1 o2 two n h)
        (ap₂ (λ (a b : List ℕ). a ++ b) (row_step 2 o3 three n h)
        (ap (λ (a : List ℕ). a ++ drop (32 + 96 * across) out) (row_step 3 o4 four n h))))

    -- all are stored, and then the four heads
    pub band_end : {lent after : List ℕ} (y n : ℕ) → n ≤ across → across ≤ n → lent ≡ band_upto out n → after ≡ head_sets across y lent 0
        → after ≡ band_at blocks format first across y ++ drop (32 + 96 * across) out
    unfolding band_upto band_at
    band_end y n a b e d =
        let same : n ≡ across = omega arith in
        let l = 8 + 24 * across in
        let o1 = take l out in
        let o2 = take l (drop l out) in
        let o3 = take l (drop l (drop l out)) in
        let o4 = take l (drop l (drop l (drop l out))) in
        let h : ℕ → List ℕ = head_of (4 * across) in
        let k : (z : ℕ) → 0 + length (h z) ≤ l = λ z. omega (arith, length_head (4 * across) z) in
        let len : across ≤ across = omega arith in
        let j : ℕ → ℕ → List ℕ = band_line blocks format first across in
        let rest = drop (32 + 96 * across) out in
        let flat : j 0 y ++ (j 1 (y + 1) ++ (j 2 (y + 2) ++ (j 3 (y + 3) ++ rest))) ≡ (j 0 y ++ (j 1 (y + 1) ++ (j 2 (y + 2) ++ j 3 (y + 3)))) ++ rest = simp append_assoc in
        d ∙ ap (λ (t : List ℕ). head_sets across y t 0) (e ∙ ap (band_upto out) same)
        ∙ four_sets_lem (row_upto 0 o1 across) (row_upto 1 o2 across) (row_upto 2 o3 across) (row_upto 3 o4 across) rest (h y) (h (y + 1)) (h (y + 2)) (h (y + 3)) l 0
        (row_length 0 o1 one across len) (row_length 1 o2 two across len) (row_length 2 o3 three across len) (row_length 3 o4 four across len)
        (k y) (k (y + 1)) (k (y + 2)) (k (y + 3))
        ∙ ap₂ (λ (s t : List ℕ). s ++ t) (row_end 0 o1 one y)
        (ap₂ (λ (s t : List ℕ). s ++ t) (row_end 1 o2 two (y + 1))
        (ap₂ (λ (s t : List ℕ). s ++ t) (row_end 2 o3 three (y + 2))
        (ap (λ (s : List ℕ). s ++ rest) (row_end 3 o4 four (y + 3)))))
        ∙ flat

-- ---- where row of blocks n is, among the blocks and in the file

pub record Placed (across down n bytes room : ℕ) : Type 0 where
  pub first : across * n ≤ 1048576
  pub inside : 16 * (across * n + across) ≤ bytes
  pub most : (32 + 96 * across) * n ≤ 100696064
  pub behind_it : (32 + 96 * across) * n + (32 + 96 * across) ≤ room

pub placed : (across down n bytes room : ℕ) → n < down → across ≤ 1024 → down ≤ 1024 → 16 * (across * down) ≤ bytes → (32 + 96 * across) * down ≤ room
    → Placed across down n bytes room
placed across down n bytes room h a d b r =
    let step : across * (n + 1) ≡ across * n + across * 1 = mul-add across n 1 in
    let low : across * (n + 1) ≤ across * down = mul-le-mul_left across (omega arith) in
    let start : across * n ≤ 1024 * 1024 = mul-le-mul {n₂ = 1024} {m₂ = 1024} a (omega arith) in
    let size : (32 + 96 * across) * n ≤ 98336 * 1024 = mul-le-mul {n₂ = 98336} {m₂ = 1024} (omega arith) (omega arith) in
    record {
      first = omega arith;
      inside = omega arith;
      most = omega arith;
      behind_it = run_room (band_of [] 0 across) (32 + 96 * across) (length_of [] 0 across) down n room h r;
    }
