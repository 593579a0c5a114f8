-- What holds at every number below n, and a loop that tests each of them. Assumes nothing.
use mathlib.Core.Path.{◌≡◌, sym, subst}
use mathlib.Core.Bool.{Bool, true, false}
use Prim.Native.Nat.{ℕ, zero, suc, ◌+◌, ◌≤◌, ◌<◌}
use native.Mathlib.Numerals.{add-one}
use native.Mathlib.Omega.{arith}
use lib.Dec.{T}
use Rattle.laws.specs.Every.{below}
use Rattle.laws.proofs.Tests.{below_at}
use Rattle.laws.proofs.Search.{is_false, both_hold}

-- what holds of three numbers, or of four, one by one
pub below_three : (P : ℕ → Type 0) → P 0 → P 1 → P 2 → (e : ℕ) → e < 3 → P e
below_three P a b c zero h = a
below_three P a b c (suc zero) h = b
below_three P a b c (suc (suc zero)) h = c
below_three P a b c (suc (suc (suc e))) h = absurd (omega arith)

pub below_four : (P : ℕ → Type 0) → P 0 → P 1 → P 2 → P 3 → (e : ℕ) → e < 4 → P e
below_four P a b c d zero h = a
below_four P a b c d (suc zero) h = b
below_four P a b c d (suc (suc zero)) h = c
below_four P a b c d (suc (suc (suc zero))) h = d
below_four P a b c d (suc (suc (suc (suc e)))) h = absurd (omega arith)

-- what holds at every number below n
pub below_all : (f : ℕ → Bool) (n : ℕ) → ((k : ℕ) → k < n → T (f k)) → T (below f n)
below_all f zero h = tt
below_all f (suc n) h = both_hold (f n) (below f n) (h n (omega arith)) (below_all f n (λ k l. h k (omega arith)))

-- one more number is tested
pub below_more : (f : ℕ → Bool) (k : ℕ) → below f k ≡ true → f k ≡ true → below f (k + 1) ≡ true
below_more f k h e = rw (add-one k, e) h

-- a number fails
pub below_fails : (f : ℕ → Bool) (n k : ℕ) → f k ≡ false → k < n → false ≡ below f n
below_fails f n k e h = sym (is_false (below f n) (λ t. subst T e (below_at f n k t h)))

-- all are tested
pub below_upto : (f : ℕ → Bool) (n k : ℕ) → below f k ≡ true → k ≤ n → n ≤ k → true ≡ below f n
below_upto f n k e low high = let q : k ≡ n = omega arith in sym (rw q at e)
