-- The number of a block's bits is that of its two words. Assumes nothing.
use mathlib.Core.Path.{◌≡◌, sym, ◌∙◌, ap, ap₂}
use mathlib.Core.List.{List}
use Prim.Native.Nat.{ℕ, zero, suc, ◌+◌, ◌*◌, ◌^◌, ◌<◌, ◌≤◌}
use native.Mathlib.Nat.{add-zero, zero-add, one-mul, mul-add, mul_assoc, mul_comm, add_assoc, pow-suc}
use native.Mathlib.Omega.{arith}
use native.Mathlib.Numerals.{add-one}
use lib.ListN.{length, get_or, drop}
use lib.Seq.{drop-cons, drop-length}
use Rattle.bcn_spec.specs.Bits.{number_of}
use Rattle.raw_bytes.specs.Bytes.{low_first}

byte : (l : List ℕ) (k : ℕ) → k < length l → number_of (drop k l) ≡ get_or l k 0 + 256 * number_of (drop (k + 1) l)
byte l k h = rw (add-one, drop-cons l k 0)

opened : (a p g r : ℕ) → a + p * (g + 256 * r) ≡ a + g * p + p * 256 * r
opened a p g r = ap (λ (x : ℕ). a + x) (mul-add p g (256 * r) ∙ ap₂ (λ (x y : ℕ). x + y) (mul_comm p g) (sym (mul_assoc p 256 r))) ∙ sym (add_assoc a (g * p) (p * 256 * r))

-- the bytes from `at` on, cut behind `count` of them
cut : (l : List ℕ) (at count : ℕ) → at + count ≤ length l → number_of (drop at l) ≡ low_first l at count + 256 ^ count * number_of (drop (at + count) l)
unfolding low_first
cut l at zero h = rw (add-zero at) (sym (zero-add _ ∙ one-mul _))
cut l at (suc count) h =
    let e : at + count + 1 ≡ at + suc count = omega arith in
    cut l at count (omega arith)
    ∙ ap (λ (x : ℕ). low_first l at count + 256 ^ count * x) (byte l (at + count) (omega arith) ∙ ap (λ (x : ℕ). get_or l (at + count) 0 + 256 * number_of (drop x l)) e)
    ∙ opened (low_first l at count) (256 ^ count) (get_or l (at + count) 0) (number_of (drop (at + suc count) l))
    ∙ ap (λ (x : ℕ). low_first l at count + get_or l (at + count) 0 * 256 ^ count + x * number_of (drop (at + suc count) l)) (sym (pow-suc 256 count))

pub sixteen_bytes : (l : List ℕ) {x y : ℕ} → length l ≡ 16 → x ≡ low_first l 0 8 → y ≡ low_first l 8 8 → x + 2 ^ 64 * y ≡ number_of l
sixteen_bytes l {x} {y} e a b =
    let none : number_of (drop 16 l) ≡ 0 = ap (λ (k : ℕ). number_of (drop k l)) (sym e) ∙ ap number_of (drop-length l) in
    let high : number_of (drop 8 l) ≡ y = cut l 8 8 (omega arith) ∙ ap (λ (z : ℕ). low_first l 8 8 + 2 ^ 64 * z) none ∙ add-zero (low_first l 8 8) ∙ sym b in
    sym (cut l 0 8 (omega arith) ∙ ap (λ (z : ℕ). low_first l 0 8 + 2 ^ 64 * z) high ∙ ap (λ (z : ℕ). z + 2 ^ 64 * y) (sym a))
