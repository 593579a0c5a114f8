-- S-22: the weights of an index of three bits, and of four. Assumes nothing.
use Rattle.std.specs.Prelude.{List, [], ◌∷◌, ℕ}

-- S-22: eight weights for three bits, sixteen for four.
abbrev pub weights8 : List ℕ
weights8 = 0 ∷ 9 ∷ 18 ∷ 27 ∷ 37 ∷ 46 ∷ 55 ∷ 64 ∷ []

abbrev pub weights16 : List ℕ
weights16 = 0 ∷ 4 ∷ 9 ∷ 13 ∷ 17 ∷ 21 ∷ 26 ∷ 30 ∷ 34 ∷ 38 ∷ 43 ∷ 47 ∷ 51 ∷ 55 ∷ 60 ∷ 64 ∷ []
