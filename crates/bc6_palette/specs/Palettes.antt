-- S-21 to S-26: the patterns between two colours. Assumes nothing.
use Rattle.std.specs.Prelude.{Bool, List, [], ◌∷◌, ℕ, pos, get_or}
use Rattle.bc6h_spec.specs.Half.{interpolated, finished}
use Rattle.bc6_half.specs.declared.Half.{Half}
use Rattle.bc6_colour.specs.declared.Colour.{Colour}
use Rattle.bc6_half.specs.Halves.{marked}

-- the patterns at a weight between two colours that are unquantised, each with whether it is minus infinity
unfoldable pub blend_of : Bool → Colour → Colour → ℕ → List Half
blend_of signed a b w =
    marked (finished signed (interpolated a.r b.r (pos w)))
    ∷ marked (finished signed (interpolated a.g b.g (pos w)))
    ∷ marked (finished signed (interpolated a.b b.b (pos w)))
    ∷ []

-- entry i of the palette between them
unfoldable pub palette_entry : Bool → Colour → Colour → List ℕ → ℕ → List Half
palette_entry signed a b weights i = blend_of signed a b (get_or weights i 0)
