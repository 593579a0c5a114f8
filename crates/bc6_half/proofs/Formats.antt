-- The format of a function that has it as a const parameter, where a test of it is known. Assumes nothing.
use mathlib.Core.Path.{◌≡◌, ap}
use mathlib.Core.Bool.{true, false, not}
use Prim.Native.Nat.{ℕ}
use lib.Dec.{eqb}
use borrow.Author.Tests.{ne_eqb}

pub is_signed : {n : ℕ} → (n ≡ 0 → ⊥) → not (eqb n 0) ≡ true
is_signed {n} h = ap not (ne_eqb n 0 h)

pub is_unsigned : {n : ℕ} → n ≡ 0 → not (eqb n 0) ≡ false
is_unsigned h = ap (λ (k : ℕ). not (eqb k 0)) h
