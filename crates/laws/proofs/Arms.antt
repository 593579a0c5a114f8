-- A `match` on a number whose arms count up from `first`: what is known in its last arm, `_`. Assumes nothing.
use mathlib.Core.Path.{◌≡◌}
use Prim.Native.Nat.{ℕ, zero, suc, ◌+◌, ◌≤◌}
use native.Mathlib.Omega.{arith}

-- the number is none of first, first + 1, .., first + count - 1
abbrev pub Past : ℕ → ℕ → ℕ → Type 0
Past first n zero = Unit
Past first n (suc count) = Past first n count × (n ≡ first + count → ⊥)

pub past : (first n count : ℕ) → first ≤ n → Past first n count → first + count ≤ n
past first n zero h p = omega arith
past first n (suc count) h p =
    let r : first + count ≤ n = past first n count h p.0 in
    let ne : n ≡ first + count → ⊥ = p.1 in
    omega (arith, ne)
