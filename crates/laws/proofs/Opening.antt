-- A zero put in above one of several packed numbers makes room for one bit more of it, and changes none of them.
-- Assumes nothing.
use mathlib.Core.Path.{◌≡◌, ◌∙◌, refl, sym, ap, ap₂, subst}
use mathlib.Core.Bool.{Bool, true, false}
use Prim.Native.Nat.{ℕ, zero, suc, ◌+◌, ◌-◌, ◌*◌, ◌/◌, ◌%◌, ◌^◌, ◌<◌, ◌≤◌}
use native.Mathlib.Nat.{add_comm, add-zero, add-suc, mul_assoc, mod-lt, mod-eq_of_lt, lt_of_lt_of_le}
use native.Mathlib.Omega.{arith}
use lib.Arith.{lt_of_le-ne}
use lib.Dec.{eqb, ltb}
use lib.Pow.{pow_pos, pow-add, pow_mono, split, high, low, field, mod-mod-pow, shr-shr}
use borrow.Author.Tests.{eqb-true, eqb-false, ltb-true, ltb-false}
use Rattle.laws.specs.Packed.{before, unpacked, opened}

-- the low bits of a number hold the first of its numbers
pub unpacked_low : (size : ℕ → ℕ) (n t k : ℕ) → before size k + size k ≤ t → unpacked size (n % 2 ^ t) k ≡ unpacked size n k
unfolding unpacked
unpacked_low size n t k h =
    let b = before size k in
    let s = size k in
    let e : (t - b - s) + s + b ≡ t = omega arith in
    ap (λ (x : ℕ). n % 2 ^ x / 2 ^ b % 2 ^ s) (sym e)
    ∙ ap (λ (x : ℕ). x % 2 ^ s) (field n ((t - b - s) + s) b)
    ∙ mod-mod-pow (n / 2 ^ b) (t - b - s) s

-- later numbers stand higher
pub before_mono : (size : ℕ → ℕ) (j k : ℕ) → j ≤ k → before size j ≤ before size k
unfolding before
before_mono size j k h =
    let e : j + (k - j) ≡ k = omega arith in
    subst (λ (y : ℕ). before size j ≤ before size y) e (go (k - j))
  where
    go : (d : ℕ) → before size j ≤ before size (j + d)
    go zero = rw add-zero (omega arith)
    go (suc d) = rw add-suc (omega (arith, go d))

-- ---- what stands below the zero, and what above it

module _ (at n : ℕ) where
  apart : opened at n ≡ n / 2 ^ at * 2 ^ (at + 1) + n % 2 ^ at
  unfolding opened
  apart =
      let q = n / 2 ^ at in
      let m : q * 2 ^ (at + 1) ≡ q * 2 ^ at + q * 2 ^ at = ap (λ (x : ℕ). q * x) (pow-add 2 at 1) ∙ sym (mul_assoc q (2 ^ at) 2) ∙ omega arith in
      omega (arith, m, split n at)

  small : n % 2 ^ at < 2 ^ (at + 1)
  small = lt_of_lt_of_le (mod-lt n (pow_pos at)) (pow_mono (let h : at ≤ at + 1 = omega arith in h))

  pub opened_above : opened at n / 2 ^ (at + 1) ≡ n / 2 ^ at
  opened_above = ap (λ (x : ℕ). x / 2 ^ (at + 1)) apart ∙ high (n / 2 ^ at) (at + 1) small

  pub opened_below : opened at n % 2 ^ (at + 1) ≡ n % 2 ^ at
  opened_below = ap (λ (x : ℕ). x % 2 ^ (at + 1)) apart ∙ low (n / 2 ^ at) (at + 1) small

  pub opened_low : opened at n % 2 ^ at ≡ n % 2 ^ at
  opened_low =
      sym (mod-mod-pow (opened at n) 1 at) ∙ ap (λ (x : ℕ). opened at n % 2 ^ x % 2 ^ at) (add_comm 1 at)
      ∙ ap (λ (x : ℕ). x % 2 ^ at) opened_below ∙ mod-eq_of_lt (mod-lt n (pow_pos at))

  -- no more than one bit is added
  pub opened_le : opened at n ≤ n + n
  unfolding opened
  opened_le = omega (arith, split n at)

-- ---- the sizes: `wider` gives number x one bit more than `size`, and every other number the same

pub record Wider (size wider : ℕ → ℕ) (x : ℕ) : Type 0 where
  pub here : wider x ≡ size x + 1
  pub else : (k : ℕ) → (k ≡ x → ⊥) → wider k ≡ size k

module _ (size wider : ℕ → ℕ) (x : ℕ) (w : Wider size wider x) where
  before_same : (k : ℕ) → k ≤ x → before wider k ≡ before size k
  unfolding before
  before_same zero h = refl
  before_same (suc k) h =
      ap₂ (λ (a b : ℕ). a + b) (before_same k (omega arith)) (w.else k (λ e. let z : k ≡ x = e in omega arith))

  -- past x, d numbers on
  before_past : (d : ℕ) → before wider (suc x + d) ≡ before size (suc x + d) + 1
  unfolding before
  before_past zero =
      rw (add-zero) (omega (arith, before_same x (omega arith), w.here))
  before_past (suc d) =
      rw (add-suc) (omega (arith, before_past d, w.else (suc x + d) (λ e. let z : suc x + d ≡ x = e in omega arith)))

  pub before_more : (k : ℕ) → x < k → before wider k ≡ before size k + 1
  before_more k h =
      let e : suc x + (k - suc x) ≡ k = omega arith in
      subst (λ (y : ℕ). before wider y ≡ before size y + 1) e (before_past (k - suc x))

  -- ---- the numbers stay

  abbrev at : ℕ
  at = before size (suc x)

  ends : at ≡ before size x + size x
  unfolding before
  ends = refl

  module _ (n k : ℕ) where
    read_below : k < x → unpacked wider (opened at n) k ≡ unpacked size n k
    unfolding unpacked before
    read_below h =
        let b : before wider k ≡ before size k = before_same k (omega arith) in
        let s : wider k ≡ size k = w.else k (λ e. let z : k ≡ x = e in omega arith) in
        let fits : before size k + size k ≤ at = before_mono size (suc k) (suc x) (omega arith) in
        ap₂ (λ (i j : ℕ). opened at n / 2 ^ i % 2 ^ j) b s
        ∙ sym (unpacked_low size (opened at n) at k fits) ∙ ap (λ (y : ℕ). unpacked size y k) (opened_low at n) ∙ unpacked_low size n at k fits

    read_here : k ≡ x → unpacked wider (opened at n) k ≡ unpacked size n k
    unfolding unpacked
    read_here e =
        let y = n / 2 ^ before size x % 2 ^ size x in
        let fits : before wider x + wider x ≤ at + 1 = omega (arith, before_same x (omega arith), w.here, ends) in
        let small : y < 2 ^ wider x =
        lt_of_lt_of_le (mod-lt (n / 2 ^ before size x) (pow_pos (size x))) (pow_mono (let h : size x ≤ wider x = omega (arith, w.here) in h)) in
        let cut : n % 2 ^ at / 2 ^ before size x ≡ y =
        ap (λ (i : ℕ). n % 2 ^ i / 2 ^ before size x) (ends ∙ add_comm (before size x) (size x)) ∙ field n (size x) (before size x) in
        subst (λ (i : ℕ). unpacked wider (opened at n) i ≡ unpacked size n i) (sym e)
        (sym (unpacked_low wider (opened at n) (at + 1) x fits) ∙ ap (λ (i : ℕ). unpacked wider i x) (opened_below at n)
        ∙ ap (λ (i : ℕ). n % 2 ^ at / 2 ^ i % 2 ^ wider x) (before_same x (omega arith))
        ∙ ap (λ (i : ℕ). i % 2 ^ wider x) cut ∙ mod-eq_of_lt small)

    read_above : x < k → unpacked wider (opened at n) k ≡ unpacked size n k
    unfolding unpacked
    read_above h =
        let d = before size k - at in
        let past : at ≤ before size k = before_mono size (suc x) k h in
        let up : before wider k ≡ (at + 1) + d = omega (arith, before_more k h) in
        let down : at + d ≡ before size k = omega arith in
        let s : wider k ≡ size k = w.else k (λ e. let z : k ≡ x = e in omega arith) in
        ap₂ (λ (i j : ℕ). opened at n / 2 ^ i % 2 ^ j) up s
        ∙ ap (λ (y : ℕ). y % 2 ^ size k)
        (sym (shr-shr (opened at n) (at + 1) d) ∙ ap (λ (y : ℕ). y / 2 ^ d) (opened_above at n) ∙ shr-shr n at d ∙ ap (λ (y : ℕ). n / 2 ^ y) down)

    cases : (same less : Bool) → eqb k x ≡ same → ltb k x ≡ less → unpacked wider (opened at n) k ≡ unpacked size n k
    cases true less e l = read_here (eqb-true k x e)
    cases false true e l = read_below (ltb-true k x l)
    cases false false e l = read_above (lt_of_le-ne (ltb-false k x l) (λ q. eqb-false k x e (sym q)))

  -- whatever n is: number k of it, and of what it is after a zero is put in above number x
  pub opened_read : (n k : ℕ) → unpacked wider (opened (before size (suc x)) n) k ≡ unpacked size n k
  opened_read n k = cases n k (eqb k x) (ltb k x) refl refl
