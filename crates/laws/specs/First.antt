-- Serves every clause. The first number that passes a test. Assumes nothing.
use Rattle.std.specs.Prelude.{Bool, ℕ, zero, suc, ltb}
use Rattle.laws.specs.Pick.{pick}

-- the first number below n that passes the test, or n where none does
unfoldable pub first_below : (ℕ → Bool) → ℕ → ℕ
first_below test zero = zero
first_below test (suc n) = pick (ltb (first_below test n) n) (first_below test n) (pick (test n) n (suc n))
