-- The lengths of a line and of the file, and that only the values of the picture count. Assumes nothing.
use mathlib.Core.Path.{◌≡◌, sym, ap, ◌∙◌}
use mathlib.Core.List.{List, ◌++◌}
use Prim.Native.Nat.{ℕ, ◌+◌, ◌*◌, ◌≤◌, ◌<◌}
use native.Mathlib.Nat.{mul-le-mul, mul-le-mul_left, mul-add}
use native.Mathlib.Omega.{arith}
use lib.ListN.{length, get_or, length-append}
use lib.Seq.{sets}
use Rattle.laws.specs.Made.{join}
use Rattle.laws.proofs.Joined.{run_length}
use Rattle.laws.proofs.Rows.{made-same}
use Rattle.laws.specs.Bit.{low_bytes}
use Rattle.laws.proofs.Digits.{length_low}
use Rattle.text.specs.Text.{Written}
use Rattle.text.proofs.Texts.{then}
use Rattle.exr_header.specs.Header.{front_of, front_length}
use Rattle.exr_header.proofs.Numbers.{front_length_is}
use Rattle.exr.specs.File.{head_of}
use Rattle.exr.proofs.Bands.{length_head}
use Rattle.exr_square.specs.Square.{square_value, square_channel, square_line, square_lines, square_file, square_room}

-- ---- where a value is

-- pixel x of line y is one of the picture's
pub pixel_inside : (side y x : ℕ) → y < side → x < side → y * side + x < side * side
pixel_inside side y x hy hx =
    let a : (y + 1) * side ≤ side * side = mul-le-mul {n₁ = y + 1} {m₁ = side} {n₂ = side} {m₂ = side} (omega arith) (omega arith) in
    let b : (y + 1) * side ≡ y * side + side = omega arith in
    omega arith

pub square_few : (side : ℕ) → side ≤ 64 → side * side ≤ 4096
square_few side h = mul-le-mul {n₁ = side} {m₁ = side} {n₂ = 64} {m₂ = 64} h h

-- ---- lengths

module _ (values : List ℕ) (side : ℕ) where
  pub value_length : (channel y x : ℕ) → length (square_value values side channel y x) ≡ 2
  unfolding square_value
  value_length channel y x = length_low 2 _

  channel_length : (channel y : ℕ) → length (square_channel values side channel y) ≡ 2 * side
  unfolding square_channel
  channel_length channel y = run_length (square_value values side channel y) 2 (value_length channel y) side

  -- where a channel ends
  pub channel_end : (channel y : ℕ) {l m : List ℕ} {at r : ℕ} → Written l at (square_channel values side channel y) r m → r ≡ at + 2 * side
  channel_end channel y {at = at} w = w.next_is ∙ ap (λ (n : ℕ). at + n) (channel_length channel y)

  pub line_length_lem : (y : ℕ) → length (square_line values side y) ≡ 8 + 6 * side
  unfolding square_line
  line_length_lem y =
      let c : (channel : ℕ) → length (square_channel values side channel y) ≡ 2 * side = λ channel. channel_length channel y in
      simp length-append (omega (arith, length_head side y, c 0, c 1, c 2))

  pub lines_length : length (square_lines values side) ≡ (8 + 6 * side) * side
  unfolding square_lines
  lines_length = run_length (square_line values side) (8 + 6 * side) line_length_lem side

-- at most 64 lines of 392 bytes, behind the front
pub file_few : (values : List ℕ) (side : ℕ) → side ≤ 64 → front_length side + (8 + 6 * side) * side ≤ square_room
unfolding front_length
file_few values side h =
    let a : (8 + 6 * side) * side ≤ 392 * 64 = mul-le-mul {n₁ = 8 + 6 * side} {m₁ = side} {n₂ = 392} {m₂ = 64} (omega arith) h in
    omega arith

-- ---- a line, and the file

-- line y is within the room of all lines
pub record Within (edge y at room : ℕ) : Type 0 where
  pub most : (8 + 24 * edge) * y ≤ 25088
  pub behind : at + (8 + 24 * edge) * y + (8 + 24 * edge) ≤ room

pub within : (edge y at room : ℕ) → edge ≤ 16 → y < 4 * edge → at + (8 + 24 * edge) * (4 * edge) ≤ room → Within edge y at room
within edge y at room e h l =
    let size = 8 + 24 * edge in
    let step : size * (y + 1) ≡ size * y + size * 1 = mul-add size y 1 in
    let low : size * (y + 1) ≤ size * (4 * edge) = mul-le-mul_left size (omega arith) in
    let few : size * (4 * edge) ≤ 392 * 64 = mul-le-mul {n₁ = size} {m₁ = 4 * edge} {n₂ = 392} {m₂ = 64} (omega arith) (omega arith) in
    record { most = omega arith; behind = omega arith }

pub all_few : (edge : ℕ) → edge ≤ 16 → (8 + 24 * edge) * (4 * edge) ≤ 25088
all_few edge e = mul-le-mul {n₁ = 8 + 24 * edge} {m₁ = 4 * edge} {n₂ = 392} {m₂ = 64} (omega arith) (omega arith)

-- a line of four times `edge` pixels
pub each_line : (values : List ℕ) (edge y : ℕ) → length (square_line values (4 * edge) y) ≡ 8 + 24 * edge
each_line values edge y = line_length_lem values (4 * edge) y ∙ (let e : 8 + 6 * (4 * edge) ≡ 8 + 24 * edge = omega arith in e)

pub line_put : (values : List ℕ) (side y : ℕ) {l m n o p : List ℕ} {at green red end : ℕ} → m ≡ sets l at (head_of side y)
    → Written m (at + 8) (square_channel values side 2 y) green n → Written n green (square_channel values side 1 y) red o
    → Written o red (square_channel values side 0 y) end p → Written l at (square_line values side y) end p
unfolding square_line
line_put values side y {at = at} e blue green red =
    then {a = head_of side y} (record { next_is = ap (λ (n : ℕ). at + n) (sym (length_head side y)); exit_is = e }) (then blue (then green red))

pub file_put : (values : List ℕ) (side : ℕ) {l m n : List ℕ} {at end : ℕ} → side ≤ 64 → Written l 0 (front_of side side) at m → Written m at (square_lines values side) end n
    → (end ≤ square_room) × Written l 0 (square_file values side) end n
unfolding square_file
file_put values side h w x =
    (omega (arith, w.next_is, x.next_is, lines_length values side, front_length_is side side, file_few values side h), then w x)

-- where the lines begin
pub front_end : (side : ℕ) {at : ℕ} {l m : List ℕ} → Written l 0 (front_of side side) at m → at ≡ front_length side
front_end side w = omega (arith, w.next_is, front_length_is side side)

-- ---- only the values of the picture count

module _ (values other : List ℕ) (side : ℕ) (e : (i : ℕ) → i < 3 * (side * side) → get_or values i 0 ≡ get_or other i 0) where
  value_same : (channel y x : ℕ) → channel < 3 → y < side → x < side → square_value values side channel y x ≡ square_value other side channel y x
  unfolding square_value
  value_same channel y x c hy hx = ap (low_bytes 2) (e (3 * (y * side + x) + channel) (omega (arith, c, pixel_inside side y x hy hx)))

  channel_same : (channel y : ℕ) → channel < 3 → y < side → square_channel values side channel y ≡ square_channel other side channel y
  unfolding square_channel
  channel_same channel y c hy = ap join (made-same (square_value values side channel y) (square_value other side channel y) side (λ x hx. value_same channel y x c hy hx))

  line_same : (y : ℕ) → y < side → square_line values side y ≡ square_line other side y
  unfolding square_line
  line_same y h = rw (channel_same 2 y (omega arith) h, channel_same 1 y (omega arith) h, channel_same 0 y (omega arith) h)

  pub same_square : square_file values side ≡ square_file other side
  unfolding square_file square_lines
  same_square = ap (λ (l : List (List ℕ)). front_of side side ++ join l) (made-same (square_line values side) (square_line other side) side line_same)
