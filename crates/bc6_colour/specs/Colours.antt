-- S-17 to S-20: an endpoint as a colour. Assumes nothing.
use Rattle.std.specs.Prelude.{Bool, ℕ}
use Rattle.laws.specs.Ranges.{InBits}
use Rattle.bc6h_spec.specs.declared.Fields.{Fields}
use Rattle.bc6h_spec.specs.Half.{unquantized}
use Rattle.bc6h_spec.specs.Picture.{endpoint}
use Rattle.bc6_colour.specs.declared.Colour.{Colour}

-- S-17, S-18: endpoint e, after the transform
unfoldable pub end_of : Bool → Fields → ℕ → Colour
end_of signed f e = record { r = endpoint signed f e 0; g = endpoint signed f e 1; b = endpoint signed f e 2 }

-- S-19, S-20: a colour, unquantised channel by channel
unfoldable pub unquantized_of : Bool → ℕ → Colour → Colour
unquantized_of signed p c =
    record { r = unquantized signed p c.r; g = unquantized signed p c.g; b = unquantized signed p c.b }

-- S-16: a colour of three numbers of p bits
pub record OfBits (signed : Bool) (p : ℕ) (c : Colour) : Type 0 where
  pub red : InBits signed p c.r
  pub green : InBits signed p c.g
  pub blue : InBits signed p c.b
