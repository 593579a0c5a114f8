-- S-73, S-74: text as a list of bytes: a number in decimal and in hex, and a word that is stored in a lent text. Assumes nothing.
use Rattle.std.specs.Prelude.{◌≡◌, List, [], ◌∷◌, ◌++◌, ℕ, zero, suc, ◌+◌, ◌/◌, ◌%◌, ltb, length}
use Rattle.std.proofs.lemmas.List.Edits.{sets}
use Rattle.laws.specs.Pick.{pick}
use Rattle.laws.specs.Made.{made, join}

abbrev pub blank : List ℕ
blank = 32 ∷ []

abbrev pub line_feed : List ℕ
line_feed = 10 ∷ []

-- a number in decimal without leading zeros, of at most so many digits: `0` is 48
unfoldable pub decimal_in : ℕ → ℕ → List ℕ
decimal_in zero n = []
decimal_in (suc most) n = pick (ltb n 10) ((48 + n) ∷ []) (decimal_in most (n / 10) ++ ((48 + n % 10) ∷ []))

-- S-73: numbers are decimal: one below 10^20, as all of 64 bits are.
unfoldable pub decimal : ℕ → List ℕ
decimal n = decimal_in 20 n

-- `0` to `9` are 48 to 57, `A` to `F` are 65 to 70
unfoldable pub hex_digit : ℕ → ℕ
hex_digit digit = pick (ltb digit 10) (48 + digit) (55 + digit)

-- S-73: four upper-case hex digits.
unfoldable pub hex : ℕ → List ℕ
hex value = hex_digit (value / 4096 % 16) ∷ hex_digit (value / 256 % 16) ∷ hex_digit (value / 16 % 16) ∷ hex_digit (value % 16) ∷ []

-- a number and a blank
unfoldable pub field : ℕ → List ℕ
field n = decimal n ++ blank

-- `store refused `
abbrev pub store_refused : List ℕ
store_refused = 115 ∷ 116 ∷ 111 ∷ 114 ∷ 101 ∷ 32 ∷ 114 ∷ 101 ∷ 102 ∷ 117 ∷ 115 ∷ 101 ∷ 100 ∷ 32 ∷ []

-- S-73: of a refused store, these words and the number only.
unfoldable pub refusal_line : ℕ → List ℕ
refusal_line number = store_refused ++ decimal number ++ line_feed

-- the first so many of a row of lines
unfoldable pub lines_to : (ℕ → List ℕ) → ℕ → List ℕ
lines_to line count = join (made line count)

-- S-74: the word is stored from `at` on, `next` is the place behind it, and all else is as it was.
pub record Written (entry : List ℕ) (at : ℕ) (word : List ℕ) (next : ℕ) (exit : List ℕ) : Type 0 where
  pub next_is : next ≡ at + length word
  pub exit_is : exit ≡ sets entry at word
