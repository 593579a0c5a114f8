-- Numbers that lie near each other and agree modulo N. Assumes nothing.
use mathlib.Core.Path.{◌≡◌, sym}
use Prim.Native.Nat.{ℕ, ◌+◌, ◌/◌, ◌%◌, ◌≤◌, ◌<◌}
use native.Mathlib.Nat.{div-add-mod', mul-le-mul_right}
use native.Mathlib.Decide.{dec_lt}
use native.Mathlib.Omega.{arith}

-- two numbers less than N apart, equal modulo N
mod_up : (N x y : ℕ) → x % N ≡ y % N → x ≤ y → y < x + N → x ≡ y
mod_up N x y e l h = go (dec_lt (x / N) (y / N))
  where
    go : Dec (x / N < y / N) → x ≡ y
    go (yes m) = absurd (omega (arith, div-add-mod' x N, div-add-mod' y N, mul-le-mul_right N m))
    go (no m) = let n : y / N ≤ x / N = omega arith in omega (arith, div-add-mod' x N, div-add-mod' y N, mul-le-mul_right N n)

pub mod_near : (N x y : ℕ) → x % N ≡ y % N → x < y + N → y < x + N → x ≡ y
mod_near N x y e l h = go (dec_lt x y)
  where
    go : Dec (x < y) → x ≡ y
    go (yes m) = mod_up N x y e (omega arith) h
    go (no m) = sym (mod_up N y x (sym e) (omega arith) l)
