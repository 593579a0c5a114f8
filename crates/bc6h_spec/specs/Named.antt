-- S-28: Eleven named blocks, the format that each is read in, its mode and what it shows. Assumes nothing.
use Rattle.std.specs.Prelude.{Bool, true, false, List, [], ◌∷◌, ◌++◌, ℕ, replicate}

-- a row: the block's bytes, the format, the mode, and the red of each pixel
pub record Row : Type 0 where
  pub bytes : List ℕ
  pub signed : Bool
  pub mode : ℕ
  pub red : List ℕ

-- that many zero bytes
abbrev pub z : ℕ → List ℕ
z n = replicate n 0

abbrev pub sixteen : ℕ → List ℕ
sixteen v = replicate 16 v

-- Green and blue are 0 throughout.
abbrev pub triples : List ℕ → List ℕ
triples [] = []
triples (r ∷ rs) = r ∷ 0 ∷ 0 ∷ triples rs

abbrev pub B1 : List ℕ
B1 = z 16

abbrev pub B2 : List ℕ
B2 = 0x13 ∷ z 15

abbrev pub B3 : List ℕ
B3 = 0x03 ∷ z 3 ++ (0xF8 ∷ 0x1F ∷ z 9) ++ (0xF0 ∷ [])

abbrev pub B4 : List ℕ
B4 = 0x07 ∷ z 3 ++ (0xF8 ∷ 0x0F ∷ z 9) ++ (0xF0 ∷ [])

abbrev pub B5 : List ℕ
B5 = 0x0B ∷ z 4 ++ (0x08 ∷ z 10)

abbrev pub B6 : List ℕ
B6 = 0x0F ∷ z 3 ++ (0x80 ∷ z 11)

abbrev pub B7 : List ℕ
B7 = 0x2F ∷ z 3 ++ (0x80 ∷ z 11)

abbrev pub B8 : List ℕ
B8 = 0xEF ∷ 0x7F ∷ z 2 ++ (0x80 ∷ 0x1F ∷ z 10)

abbrev pub B9 : List ℕ
B9 = 0x1E ∷ z 7 ++ (0x7E ∷ 0xA0 ∷ 0x01 ∷ z 5)

abbrev pub B10 : List ℕ
B10 = 0x03 ∷ z 3 ++ (0xF8 ∷ 0x1F ∷ z 2) ++ (0x10 ∷ z 6) ++ (0xF0 ∷ [])

abbrev pub B11 : List ℕ
B11 = 0x03 ∷ z 3 ++ (0xF8 ∷ 0x1F ∷ z 2) ++ (0x0E ∷ z 7)

abbrev pub named_blocks : List Row
named_blocks =
    record { bytes = B1; signed = false; mode = 1; red = sixteen 0 }
    ∷ record { bytes = B2; signed = false; mode = 0; red = sixteen 0 }
    ∷ record { bytes = B2; signed = true; mode = 0; red = sixteen 0 }
    ∷ record { bytes = B3; signed = false; mode = 11; red = replicate 15 0 ++ (0x7BFF ∷ []) }
    ∷ record { bytes = B4; signed = false; mode = 12; red = replicate 15 0 ++ (0x7BFF ∷ []) }
    ∷ record { bytes = B5; signed = false; mode = 13; red = sixteen 0x3E03 }
    ∷ record { bytes = B6; signed = true; mode = 14; red = sixteen 0xFC00 }
    ∷ record { bytes = B6; signed = false; mode = 14; red = sixteen 0x3E00 }
    ∷ record { bytes = B7; signed = true; mode = 14; red = sixteen 0xFBFF }
    ∷ record { bytes = B8; signed = true; mode = 14; red = sixteen 0 }
    ∷ record { bytes = B8; signed = false; mode = 14; red = sixteen 0x7BFF }
    ∷ record { bytes = B9; signed = false; mode = 10; red = replicate 8 0 ++ replicate 8 0x7BFF }
    ∷ record { bytes = B9; signed = true; mode = 10; red = replicate 8 0 ++ replicate 8 0x85D0 }
    ∷ record { bytes = B10; signed = false; mode = 11; red = 0 ∷ 0x07C0 ∷ replicate 13 0 ++ (0x7BFF ∷ []) }
    ∷ record { bytes = B11; signed = false; mode = 11; red = 0x3A20 ∷ replicate 15 0 }
    ∷ []

-- what holds of each row
abbrev pub EachOf : (Row → Type 0) → List Row → Type 0
EachOf P [] = Unit {0}
EachOf P (row ∷ rows) = P row × EachOf P rows
