-- A word's lanes under `+`, `<<` and `&`. Assumes nothing.
use mathlib.Core.Path.{◌≡◌, ◌∙◌, refl, sym, ap, ap₂}
use Prim.Native.Nat.{ℕ, zero, suc, ◌+◌, ◌*◌, ◌/◌, ◌%◌, ◌^◌, ◌<◌}
use native.Mathlib.Nat.{add-mul, mul_assoc, div-one}
use native.Mathlib.Omega.{arith}
use lib.Pow.{shr-shr, split, shr_mod}
use lib.Bits.{bit_and, and_shr, and_mod}
use Rattle.laws.proofs.Below.{below_four}
use Rattle.bc6_runs.specs.Threes.{lane, four_lanes}

abbrev pub below64 : ℕ
below64 = 18446744073709551616

-- ---- a word is its lanes

glue : (n r0 q1 r1 q2 r2 q3 r3 : ℕ) → n % 65536 ≡ r0 → q1 * 65536 + n % 65536 ≡ n → q2 * 65536 + r1 ≡ q1 → q3 * 65536 + r2 ≡ q2 → r3 ≡ q3
    → n ≡ four_lanes r0 r1 r2 r3
glue n r0 q1 r1 q2 r2 q3 r3 h0 a0 a1 a2 top = omega arith

pub whole : (n : ℕ) → n < below64 → n ≡ four_lanes (lane n 0) (lane n 1) (lane n 2) (lane n 3)
whole n h =
    let d : n / 1 ≡ n = div-one n in
    let e2 : n / 65536 / 65536 ≡ n / 4294967296 = shr-shr n 16 16 in
    let e3 : n / 4294967296 / 65536 ≡ n / 281474976710656 = shr-shr n 32 16 in
    let a0 : n / 65536 * 65536 + n % 65536 ≡ n = split n 16 in
    let a1 : n / 65536 / 65536 * 65536 + n / 65536 % 65536 ≡ n / 65536 = split (n / 65536) 16 in
    let a2 : n / 4294967296 / 65536 * 65536 + n / 4294967296 % 65536 ≡ n / 4294967296 = split (n / 4294967296) 16 in
    let top : n / 281474976710656 % 65536 ≡ n / 281474976710656 = shr_mod 16 48 h in
    glue n (n / 1 % 65536) (n / 65536) (n / 65536 % 65536) (n / 4294967296) (n / 4294967296 % 65536) (n / 281474976710656) (n / 281474976710656 % 65536)
    (sym (ap (λ (x : ℕ). x % 65536) d) ∙ refl) a0 (ap (λ (x : ℕ). x * 65536 + n / 65536 % 65536) (sym e2) ∙ a1) (ap (λ (x : ℕ). x * 65536 + n / 4294967296 % 65536) (sym e3) ∙ a2) top

-- number e of four
abbrev pub fourth : ℕ → ℕ → ℕ → ℕ → ℕ → ℕ
fourth w x y z zero = w
fourth w x y z (suc zero) = x
fourth w x y z (suc (suc zero)) = y
fourth w x y z (suc (suc (suc e))) = z

module _ (w x y z : ℕ) (hw : w < 65536) (hx : x < 65536) (hy : y < 65536) (hz : z < 65536) where
  lane_0 : four_lanes w x y z / 1 % 65536 ≡ w
  lane_0 = omega arith

  lane_1 : four_lanes w x y z / 65536 % 65536 ≡ x
  lane_1 = omega arith

  lane_2 : four_lanes w x y z / 4294967296 % 65536 ≡ y
  lane_2 = omega arith

  lane_3 : four_lanes w x y z / 281474976710656 % 65536 ≡ z
  lane_3 = omega arith

  -- four numbers of sixteen bits are the lanes of their word ..
  pub lane_of_four : (e : ℕ) → e < 4 → lane (four_lanes w x y z) e ≡ fourth w x y z e
  lane_of_four = below_four (λ e. lane (four_lanes w x y z) e ≡ fourth w x y z e) lane_0 lane_1 lane_2 lane_3

  -- the word has 64 bits
  pub four_fits : four_lanes w x y z < below64
  four_fits = omega arith

-- ---- four numbers in one word, worked on at once

pub sums : (a b c d p q r s : ℕ) → four_lanes a b c d + four_lanes p q r s ≡ four_lanes (a + p) (b + q) (c + r) (d + s)
sums a b c d p q r s = omega arith

pub products : (a b c d k : ℕ) → four_lanes a b c d * k ≡ four_lanes (a * k) (b * k) (c * k) (d * k)
products a b c d k =
    add-mul (a + 65536 * b + 4294967296 * c) (281474976710656 * d) k
    ∙ ap₂ (λ (x y : ℕ). x + y)
    (add-mul (a + 65536 * b) (4294967296 * c) k
    ∙ ap₂ (λ (x y : ℕ). x + y) (add-mul a (65536 * b) k ∙ ap (λ (x : ℕ). a * k + x) (mul_assoc 65536 b k)) (mul_assoc 4294967296 c k))
    (mul_assoc 281474976710656 d k)

-- `&` goes lane by lane
pub and_lane : (a b e : ℕ) → lane (bit_and a b) e ≡ bit_and (lane a e) (lane b e)
and_lane a b e = ap (λ (x : ℕ). x % 2 ^ 16) (and_shr a b (16 * e)) ∙ and_mod (a / 2 ^ (16 * e)) (b / 2 ^ (16 * e)) 16
