-- S-10: runs: stretches of a block's bits, and the words that they make. Assumes nothing.
use Rattle.std.specs.Prelude.{Bool, List, [], ◌∷◌, ℕ, ◌+◌, ◌-◌, ◌*◌, ◌/◌, ◌%◌, ◌^◌, leb, ltb}
use Rattle.laws.specs.Pick.{both}

-- `size` bits of the block from bit `at` on, the lowest as bit `shift` of a word
pub record Run : Type 0 where
  pub at : ℕ
  pub size : ℕ
  pub shift : ℕ

abbrev pub part : ℕ → Run → ℕ
part n r = n / 2 ^ r.at % 2 ^ r.size * 2 ^ r.shift

-- what runs make of a block's number
abbrev pub sum : ℕ → List Run → ℕ
sum n [] = 0
sum n (r ∷ rs) = part n r + sum n rs

-- the run lies in the block, and in a word
abbrev pub readable : Run → Bool
readable r = both (ltb r.at 128) (both (leb r.size 63) (both (ltb r.shift 64) (leb (r.size + r.shift) 64)))

-- the most that runs make
abbrev pub most : List Run → ℕ
most [] = 0
most (r ∷ rs) = (2 ^ r.size - 1) * 2 ^ r.shift + most rs
