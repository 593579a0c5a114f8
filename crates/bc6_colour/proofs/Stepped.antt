-- Unquantising an unsigned number as a sum: its place, half a step above it, and at the highest another half less one. Assumes nothing.
use mathlib.Core.Path.{◌≡◌, ◌∙◌, refl, sym, ap, subst}
use mathlib.Core.Bool.{false}
use Prim.Native.Nat.{ℕ, suc, zero-le, ◌+◌, ◌-◌, ◌*◌, ◌/◌, ◌^◌, ◌≤◌, ◌<◌}
use native.Mathlib.Nat.{mul-div_cancel, mul-pos, suc-mul, mul_comm, mul_assoc, add-mul, mul-le-mul_right}
use native.Mathlib.Decide.{ℕ_discrete}
use native.Mathlib.Omega.{arith}
use lib.Arith.{digits_div}
use lib.Dec.{leb, lit≤}
use lib.Pow.{pow-add, pow_pos, pow_mono}
use borrow.Author.Tests.{lt-leb, eq-eqb, ne_eqb}
use Rattle.bc6h_spec.specs.Half.{unquantize_u}

-- ---- steps

-- a step of p bits is two half steps, and 2 ^ p half steps are half the range
half_step : (p : ℕ) → p < 15 → 2 ^ (16 - p) ≡ 2 * 2 ^ (15 - p)
half_step p h =
    let e : 15 - p + 1 ≡ 16 - p = omega arith in
    ap (λ (k : ℕ). 2 ^ k) (sym e) ∙ pow-add 2 (15 - p) 1 ∙ mul_comm (2 ^ (15 - p)) 2

half_range : (p : ℕ) → p < 15 → 2 ^ p * 2 ^ (15 - p) ≡ 32768
half_range p h =
    let e : p + (15 - p) ≡ 15 = omega arith in
    sym (pow-add 2 p (15 - p)) ∙ ap (λ (k : ℕ). 2 ^ k) e

steps_of : (p x : ℕ) → p < 15 → x * 2 ^ (16 - p) ≡ 2 * (x * 2 ^ (15 - p))
steps_of p x h =
    ap (λ (n : ℕ). x * n) (half_step p h) ∙ sym (mul_assoc x 2 (2 ^ (15 - p))) ∙ ap (λ (n : ℕ). n * 2 ^ (15 - p)) (mul_comm x 2) ∙ mul_assoc 2 x (2 ^ (15 - p))

-- (2 a x + a) div b, where b divides a
stepped : (x a b k : ℕ) → 0 < b → b * k ≡ a → (2 * a * x + a) / b ≡ 2 * (x * k) + k
stepped x a b k h e =
    let whole : 2 * a * x + a ≡ (2 * (x * k) + k) * b =
    let s : x * a ≡ x * k * b = ap (λ (n : ℕ). x * n) (sym e ∙ mul_comm b k) ∙ sym (mul_assoc x k b) in
    let t : (2 * (x * k) + k) * b ≡ 2 * (x * k) * b + k * b = add-mul (2 * (x * k)) k b in
    let u : 2 * (x * k) * b ≡ 2 * (x * k * b) = mul_assoc 2 (x * k) b in
    let v : 2 * a * x ≡ 2 * (x * a) = mul_assoc 2 a x ∙ ap (λ (n : ℕ). 2 * n) (mul_comm a x) in
    let w : k * b ≡ a = mul_comm k b ∙ e in
    omega (arith, s, t, u, v, w) in
    ap (λ (n : ℕ). n / b) whole ∙ mul-div_cancel (2 * (x * k) + k) h

-- ---- the sum

-- 1 for a number that is not 0, and for the highest of p bits
abbrev pub some_of : ℕ → ℕ → ℕ
some_of p x = (x + (2 ^ p - 1)) / 2 ^ p

abbrev pub top_of : ℕ → ℕ → ℕ
top_of p x = (x + 1) / 2 ^ p

pub record Summed (p x : ℕ) : Type 0 where
  pub few : some_of p x + top_of p x ≤ 2
  pub one : top_of p x ≤ 1
  pub place : x * 2 ^ (16 - p) ≤ 65536
  pub steps : (some_of p x + top_of p x) * 2 ^ (15 - p) ≤ 65536
  pub covers : top_of p x ≤ x * 2 ^ (16 - p) + (some_of p x + top_of p x) * 2 ^ (15 - p)
  pub is : x * 2 ^ (16 - p) + (some_of p x + top_of p x) * 2 ^ (15 - p) - top_of p x ≡ unquantize_u p x

module _ (p x : ℕ) (least : 0 < p) (most : p < 15) (few : x < 2 ^ p) where
  abbrev P : ℕ
  P = 2 ^ p

  abbrev K : ℕ
  K = 2 ^ (15 - p)

  two : 2 ≤ P
  two = pow_mono {i = 1} {j = p} least

  twice_step : x * 2 ^ (16 - p) ≡ 2 * (x * K)
  twice_step = steps_of p x most

  range : suc x * K ≤ 32768
  range = subst (λ (n : ℕ). suc x * K ≤ n) (half_range p most) (mul-le-mul_right K few)

  next : suc x * K ≡ x * K + K
  next = suc-mul x K

  half : K ≤ 16384
  half = pow_mono {i = 15 - p} {j = 14} (omega arith)

  some : 0 < K
  some = pow_pos (15 - p)

  narrow : leb 15 p ≡ false
  narrow = lt-leb 15 p most

  by : (s t : ℕ) → some_of p x ≡ s → top_of p x ≡ t → s ≤ 1 → t ≤ 1 → t ≤ 2 * (x * K) + (s + t) * K → 2 * (x * K) + (s + t) * K - t ≡ unquantize_u p x → Summed p x
  by s t es et hs ht c i =
      let steps : (s + t) * K ≤ 2 * K = mul-le-mul_right K (let l : s + t ≤ 2 = omega arith in l) in
      record {
        few = rw (es, et) (omega arith);
        one = rw et ht;
        place = omega (arith, twice_step, range, next);
        steps = rw (es, et) (omega (arith, steps, half));
        covers = rw (es, et, twice_step) c;
        is = rw (es, et, twice_step) i;
      }

  -- how often 2 ^ p goes in a number
  none : (n : ℕ) → n < P → n / P ≡ 0
  none n h = ap (λ (k : ℕ). k / P) (let e : n ≡ 0 * P + n = omega arith in e) ∙ digits_div 0 h

  once : (n r : ℕ) → n ≡ P + r → r < P → n / P ≡ 1
  once n r e h = ap (λ (k : ℕ). k / P) (e ∙ (let f : P + r ≡ 1 * P + r = omega arith in f)) ∙ digits_div 1 h

  at_zero : x ≡ 0 → Summed p x
  unfolding unquantize_u
  at_zero z =
      by 0 0 (none _ (omega (arith, two))) (none _ (omega (arith, two))) (lit≤ tt) (lit≤ tt) zero-le
      (rw (narrow, eq-eqb x 0 z) (ap (λ (n : ℕ). 2 * (n * K) + (0 + 0) * K - 0) z ∙ omega arith))

  at_top : (x ≡ 0 → ⊥) → x ≡ P - 1 → Summed p x
  unfolding unquantize_u
  at_top z t =
      let all : suc x * K ≡ 32768 = ap (λ (n : ℕ). n * K) (let e : suc x ≡ P = omega (arith, two) in e) ∙ half_range p most in
      let b : 1 ≤ x * K = mul-pos (omega arith) some in
      let two_steps : (1 + 1) * K ≡ 2 * K = refl in
      by 1 1 (once _ (x - 1) (omega (arith, two)) (omega (arith, two))) (once _ 0 (omega (arith, two)) (omega (arith, two))) (lit≤ tt) (lit≤ tt) (omega (arith, b))
      (rw (narrow, ne_eqb x 0 z, eq-eqb x (P - 1) t) (omega (arith, all, next, b)))

  between : (x ≡ 0 → ⊥) → (x ≡ P - 1 → ⊥) → Summed p x
  unfolding unquantize_u
  between z t =
      let step : (65536 * x + 32768) / P ≡ 2 * (x * K) + K = stepped x 32768 P K (pow_pos p) (half_range p most) in
      by 1 0 (once _ (x - 1) (omega (arith, two)) (omega (arith, two))) (none _ (omega (arith, two))) (lit≤ tt) (lit≤ tt) zero-le
      (rw (narrow, ne_eqb x 0 z, ne_eqb x (P - 1) t) (omega (arith, step)))

  pub summed : Summed p x
  summed = go (ℕ_discrete x 0) (ℕ_discrete x (P - 1))
    where
      go : Dec (x ≡ 0) → Dec (x ≡ P - 1) → Summed p x
      go (yes z) t = at_zero z
      go (no z) (yes t) = at_top z t
      go (no z) (no t) = between z t
