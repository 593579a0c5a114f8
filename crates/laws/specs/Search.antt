-- Serves every clause. Tests that antt computes by looking through a range. Assumes nothing.
use Rattle.std.specs.Prelude.{Bool, false, not, ℕ, zero, suc, eqb}
use Rattle.laws.specs.Pick.{either}

-- the test holds at some number below n
unfoldable pub some : (ℕ → Bool) → ℕ → Bool
some f zero = false
some f (suc n) = either (f n) (some f n)

-- f i is one of f 0, .., f (i - 1)
abbrev pub equals : (ℕ → ℕ) → ℕ → ℕ → Bool
equals f i k = eqb (f i) (f k)

abbrev pub repeated : (ℕ → ℕ) → ℕ → Bool
repeated f i = some (equals f i) i

-- f 0, .., f (n - 1) all differ
abbrev pub distinct : (ℕ → ℕ) → ℕ → Bool
distinct f n = not (some (repeated f) n)
