-- S-11: what the falling runs of modes 12 to 14 gather: the first bit is the highest, as in the Rust's `consume_bits_rev`. Assumes nothing.
use mathlib.Core.Path.{◌≡◌, ◌∙◌, sym, ap}
use Prim.Native.Nat.{ℕ, zero, suc, ◌+◌, ◌-◌, ◌*◌, ◌/◌, ◌%◌, ◌^◌, ◌<◌, ◌≤◌}
use native.Mathlib.Nat.{add-mul, mul_assoc, zero-mul, suc-sub-suc}
use native.Mathlib.Omega.{arith}
use lib.Dec.{eqb}
use lib.Pow.{pow-add}
use borrow.Author.Tests.{eq-eqb}
use Rattle.laws.specs.Pick.{pick}
use Rattle.bc6h_spec.specs.Layout.{falling}
use Rattle.bc6h_spec.specs.Fields.{gathered}

-- the lowest `count` bits of n, the first the highest; of no bits it is 0
abbrev pub reversed : ℕ → ℕ → ℕ
reversed zero n = 0
reversed (suc count) n = n % 2 * 2 ^ count + reversed count (n / 2)

-- one bit more at the top
step : (p b count n g : ℕ) → suc count ≤ suc b → b < 16 → g ≡ reversed count (n / 2) * 2 ^ (b - count)
    → pick (eqb ((16 * p + b) / 16) p) (n % 2 * 2 ^ ((16 * p + b) % 16)) 0 + g ≡ reversed (suc count) n * 2 ^ (suc b - suc count)
step p b count n g h l e =
    let place : (16 * p + b) / 16 ≡ p = omega arith in
    let at : (16 * p + b) % 16 ≡ b = omega arith in
    let up : count + (b - count) ≡ b = omega arith in
    let top : n % 2 * 2 ^ count * 2 ^ (b - count) ≡ n % 2 * 2 ^ b =
    mul_assoc (n % 2) (2 ^ count) (2 ^ (b - count)) ∙ ap (λ (x : ℕ). n % 2 * x) (sym (pow-add 2 count (b - count)) ∙ ap (λ (x : ℕ). 2 ^ x) up) in
    rw (at, eq-eqb ((16 * p + b) / 16) p place, e, suc-sub-suc b count)
    (sym (add-mul (n % 2 * 2 ^ count) (reversed count (n / 2)) (2 ^ (b - count)) ∙ ap (λ (x : ℕ). x + reversed count (n / 2) * 2 ^ (b - count)) top))

-- what a run that starts at bit b of place p and falls gathers there
pub falling_gathers : (p b count n : ℕ) → count ≤ suc b → b < 16 → gathered (falling count (16 * p + b)) n p ≡ reversed count n * 2 ^ (suc b - count)
unfolding gathered
falling_gathers p b zero n h l = sym (zero-mul (2 ^ (suc b - 0)))
falling_gathers p b (suc zero) n h l = step p b 0 n 0 h l (sym (zero-mul (2 ^ (b - 0))))
falling_gathers p b (suc (suc count)) n h l =
    let down : 16 * p + b - 1 ≡ 16 * p + (b - 1) = omega arith in
    let same : suc (b - 1) ≡ b = omega arith in
    step p b (suc count) n (gathered (falling (suc count) (16 * p + b - 1)) (n / 2) p) h l
    (ap (λ (x : ℕ). gathered (falling (suc count) x) (n / 2) p) down
    ∙ falling_gathers p (b - 1) (suc count) (n / 2) (omega arith) (omega arith)
    ∙ ap (λ (x : ℕ). reversed (suc count) (n / 2) * 2 ^ (x - suc count)) same)
