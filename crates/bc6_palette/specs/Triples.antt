-- S-27: pictures as sixteen triples, and as 48 values. Assumes nothing.
use Rattle.std.specs.Prelude.{false, List, [], ◌∷◌, ℕ, ◌+◌, ◌*◌, ◌/◌, ◌%◌, ◌<◌, eqb, get_or}
use Rattle.laws.specs.Pick.{pick}
use Rattle.laws.specs.Bit.{bit}
use Rattle.laws.specs.Made.{made}
use Rattle.bc6h_spec.specs.Picture.{value_count}
use Rattle.bc6_half.specs.declared.Half.{Half}
use Rattle.bc6_half.specs.Halves.{marked}

-- the values of pixel k: red, green, blue, each with whether it is minus infinity
unfoldable pub marked_triple : List ℕ → ℕ → List Half
marked_triple values k = marked (get_or values (3 * k) 0) ∷ marked (get_or values (3 * k + 1) 0) ∷ marked (get_or values (3 * k + 2) 0) ∷ []

-- the values, three by three
unfoldable pub in_triples : List ℕ → List (List Half)
in_triples values = made (marked_triple values) 16

abbrev pub no_half : Half
no_half = record { pattern = 0; infinite = false }

-- value j is channel j mod 3 of pixel j div 3
unfoldable pub triple_half : List (List Half) → ℕ → Half
triple_half triples j = get_or (get_or triples (j / 3) []) (j % 3) no_half

unfoldable pub triple_value : List (List Half) → ℕ → ℕ
triple_value triples j = (triple_half triples j).pattern

-- the triples' values, one after the other
unfoldable pub flat : List (List Half) → List ℕ
flat triples = made (triple_value triples) value_count

-- each of the sixteen indices is below n
abbrev pub IndicesBelow : ℕ → List ℕ → Type 0
IndicesBelow n indices = (k : ℕ) → k < 16 → get_or indices k 0 < n

-- a pixel has the palette's colour at its index, in two regions its region's palette's
unfoldable pub one_pixel : List (List Half) → List ℕ → ℕ → List Half
one_pixel palette indices k = get_or palette (get_or indices k 0) []

unfoldable pub two_pixel : List (List Half) → List (List Half) → ℕ → List ℕ → ℕ → List Half
two_pixel palette0 palette1 map indices k = one_pixel (pick (eqb (bit map k) 0) palette0 palette1) indices k
