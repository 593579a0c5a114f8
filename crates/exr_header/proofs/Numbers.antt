-- Numbers as bytes, the front's length, and what each function that writes it shows. Assumes nothing.
use mathlib.Core.Path.{◌≡◌, refl, sym, ap, ap₂, ◌∙◌}
use mathlib.Core.List.{List, ◌∷◌, ◌++◌}
use Prim.Native.Nat.{ℕ, zero, suc, ◌+◌, ◌-◌, ◌*◌, ◌/◌, ◌%◌, ◌^◌, ◌≤◌}
use native.Mathlib.Nat.{mul-le-mul, div-one, div-div-eq-div-mul}
use native.Mathlib.Numerals.{add-one}
use native.Mathlib.Omega.{arith}
use lib.ListN.{length, length-append}
use lib.Seq.{sets}
use lib.Pow.{pow-add}
use Rattle.std.specs.Int.{byte_at, bytes_low_first}
use Rattle.laws.specs.Made.{made, join}
use Rattle.laws.proofs.Joined.{run_more, run_length}
use Rattle.laws.proofs.Digits.{length_low}
use Rattle.laws.specs.Bit.{low_bytes}
use Rattle.text.specs.Text.{Written}
use Rattle.text.proofs.Texts.{sets_append}
use Rattle.exr_header.specs.Header.{window_of, start_part, data_part, display_part, corner_of, screen_part, header_of, header_length, line_length, front_length, line_start, start_bytes, table_of, front_of}

-- ---- a number

-- the library's bytes of a number, from byte i on, the lowest first
low_first : (i k n : ℕ) → bytes_low_first i k n ≡ low_bytes k (n / 256 ^ i)
unfolding low_bytes
low_first i zero n = refl
low_first i (suc k) n = ap₂ (λ (b : ℕ) (bs : List ℕ). b ∷ bs) (here i) (low_first (suc i) k n ∙ ap (low_bytes k) (sym next))
  where
    here : (i : ℕ) → byte_at i n ≡ n / 256 ^ i % 256
    here zero = ap (λ (x : ℕ). x % 256) (sym (div-one n))
    here (suc i) = refl

    next : n / 256 ^ i / 256 ≡ n / 256 ^ suc i
    next = div-div-eq-div-mul n (256 ^ i) 256 ∙ ap (λ (x : ℕ). n / x) (sym (pow-add 256 i 1) ∙ ap (λ (x : ℕ). 256 ^ x) (add-one i))

pub low_first_all : (k n : ℕ) → bytes_low_first 0 k n ≡ low_bytes k n
low_first_all k n = low_first 0 k n ∙ ap (low_bytes k) (div-one n)

-- ---- the header

pub header_parts : (width height : ℕ)
    → start_part ++ (data_part ++ (corner_of width height ++ (display_part ++ (corner_of width height ++ screen_part)))) ≡ header_of width height
unfolding header_of start_part data_part display_part corner_of screen_part window_of low_bytes
header_parts width height = refl

pub corner_put : (width height : ℕ) (l l1 l2 : List ℕ) (at : ℕ) → l1 ≡ sets l at (low_bytes 4 (width - 1)) → l2 ≡ sets l1 (at + 4) (low_bytes 4 (height - 1))
    → l2 ≡ sets l at (corner_of width height)
unfolding corner_of
corner_put width height l l1 l2 at a b =
    rw a at b ∙ sets_append (low_bytes 4 (width - 1)) (low_bytes 4 (height - 1)) l at (at + 4) (omega (arith, length_low 4 (width - 1)))

corner_length : (width height : ℕ) → length (corner_of width height) ≡ 8
unfolding corner_of low_bytes
corner_length width height = refl

start_long : length start_part ≡ 83
unfolding start_part low_bytes
start_long = refl

data_long : length data_part ≡ 58
unfolding data_part low_bytes
data_long = refl

display_long : length display_part ≡ 32
unfolding display_part
display_long = refl

pub header_put : (width height : ℕ) (l l1 l2 l3 l4 l5 l6 : List ℕ) → l1 ≡ sets l 0 start_part → l2 ≡ sets l1 83 data_part → l3 ≡ sets l2 141 (corner_of width height)
    → l4 ≡ sets l3 149 display_part → l5 ≡ sets l4 181 (corner_of width height) → l6 ≡ sets l5 189 screen_part → l6 ≡ sets l 0 (header_of width height)
header_put width height l l1 l2 l3 l4 l5 l6 a b c d e f =
    let k = corner_of width height in
    let lk = corner_length width height in
    f ∙ ap (λ (x : List ℕ). sets x 189 screen_part) e ∙ sets_append k screen_part l4 181 189 (omega arith)
    ∙ ap (λ (x : List ℕ). sets x 181 (k ++ screen_part)) d ∙ sets_append display_part (k ++ screen_part) l3 149 181 (omega (arith, display_long))
    ∙ ap (λ (x : List ℕ). sets x 149 (display_part ++ (k ++ screen_part))) c ∙ sets_append k (display_part ++ (k ++ screen_part)) l2 141 149 (omega arith)
    ∙ ap (λ (x : List ℕ). sets x 141 (k ++ (display_part ++ (k ++ screen_part)))) b
    ∙ sets_append data_part (k ++ (display_part ++ (k ++ screen_part))) l1 83 141 (omega (arith, data_long))
    ∙ ap (λ (x : List ℕ). sets x 83 (data_part ++ (k ++ (display_part ++ (k ++ screen_part))))) a
    ∙ sets_append start_part (data_part ++ (k ++ (display_part ++ (k ++ screen_part)))) l 0 83 (omega (arith, start_long))
    ∙ ap (sets l 0) (header_parts width height)

-- ---- the table

pub start_length : (width height y : ℕ) → length (start_bytes width height y) ≡ 8
unfolding start_bytes
start_length width height y = length_low 8 (line_start width height y)

pub start_is : (width height y : ℕ) {first : ℕ} → first ≡ front_length height → first + y * (8 + 6 * width) ≡ line_start width height y
unfolding line_start line_length
start_is width height y e = rw e

-- no entry is above the length of the longest file
pub start_small : (width height y : ℕ) → width ≤ 4096 → y ≤ 4096 → y * (8 + 6 * width) ≤ 100696064
start_small width height y w h = mul-le-mul {n₂ = 4096} {m₂ = 24584} h (omega arith)

pub table_start : (width height : ℕ) (l : List ℕ) → l ≡ sets l header_length (join (made (start_bytes width height) 0))
unfolding made
table_start width height l = refl

pub table_more : (width height : ℕ) (l out : List ℕ) (y n : ℕ) → out ≡ sets l header_length (join (made (start_bytes width height) y))
    → n ≡ line_start width height y
    → sets out (313 + 8 * y) (low_bytes 8 n) ≡ sets l header_length (join (made (start_bytes width height) (y + 1)))
unfolding start_bytes
table_more width height l out y n e h =
    let f = start_bytes width height in
    let len : length (join (made f y)) ≡ 8 * y = run_length f 8 (start_length width height) y in
    ap₂ (λ (t : List ℕ) (x : ℕ). sets t (313 + 8 * y) (low_bytes 8 x)) e h
    ∙ sets_append (join (made f y)) (f y) l header_length (313 + 8 * y) (omega arith)
    ∙ ap (sets l header_length) (sym (run_more f y))

pub table_all : (width height : ℕ) (l out : List ℕ) (y lines : ℕ) → out ≡ sets l header_length (join (made (start_bytes width height) y)) → lines ≡ height → y ≤ lines → lines ≤ y
    → out ≡ sets l header_length (table_of width height)
unfolding table_of
table_all width height l out y lines e s a b = let same : y ≡ height = omega arith in rw same at e

pub table_length : (width height : ℕ) → length (table_of width height) ≡ 8 * height
unfolding table_of
table_length width height = run_length (start_bytes width height) 8 (start_length width height) height

-- ---- lengths of the front

pub header_length_lem : (width height : ℕ) → length (header_of width height) ≡ header_length
unfolding header_of window_of low_bytes
header_length_lem width height = refl

pub front_length_is : (width height : ℕ) → length (front_of width height) ≡ front_length height
unfolding front_of front_length
front_length_is width height =
    length-append (header_of width height) (table_of width height) ∙ ap₂ (λ (a b : ℕ). a + b) (header_length_lem width height) (table_length width height)

pub front_put : (width height : ℕ) (l m n : List ℕ) {size : ℕ} → m ≡ sets l 0 (header_of width height) → n ≡ sets m header_length (table_of width height) → size ≡ front_length height
    → Written l 0 (front_of width height) size n
unfolding front_of
front_put width height l m n e f s = record {
  next_is = s ∙ sym (front_length_is width height) ∙ (let z : length (front_of width height) ≡ 0 + length (front_of width height) = omega arith in z);
  exit_is = rw e at f ∙ sets_append (header_of width height) (table_of width height) l 0 header_length (omega (arith, header_length_lem width height));
}
