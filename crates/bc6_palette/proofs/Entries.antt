-- What an entry of a palette asks, and what it is. Assumes nothing.
use mathlib.Core.Path.{◌≡◌, ◌∙◌, ap}
use mathlib.Core.Bool.{Bool}
use mathlib.Core.List.{List}
use Prim.Native.Nat.{ℕ, ◌≤◌}
use lib.ListN.{get_or}
use Rattle.bc6h_spec.proofs.Ranges.{unquantized_in}
use Rattle.bc6_half.specs.declared.Half.{Half}
use Rattle.bc6_colour.specs.declared.Colour.{Colour}
use Rattle.bc6_colour.specs.Colours.{unquantized_of, OfBits}
use Rattle.bc6_palette.specs.Palettes.{blend_of, palette_entry}

pub ready : (s : Bool) (p : ℕ) (c : Colour) → p ≤ 16 → OfBits s p c → OfBits s 16 (unquantized_of s p c)
unfolding unquantized_of
ready s p c h r =
    record {
      red = unquantized_in s p c.r h r.red;
      green = unquantized_in s p c.g h r.green;
      blue = unquantized_in s p c.b h r.blue;
    }

-- what an entry asks of two colours that were unquantised
pub between_asks : (s : Bool) (p : ℕ) (c₁ c₂ a b : Colour) → p ≤ 16 → OfBits s p c₁ × OfBits s p c₂
    → a ≡ unquantized_of s p c₁ → b ≡ unquantized_of s p c₂ → OfBits s 16 a × OfBits s 16 b
between_asks s p c₁ c₂ a b h r ea eb = (rw ea (ready s p c₁ h r.0), rw eb (ready s p c₂ h r.1))

pub entry_is : (s : Bool) (a b : Colour) (w : ℕ) (ws : List ℕ) (x : List Half) (i : ℕ) → x ≡ blend_of s a b w → w ≡ get_or ws i 0 → x ≡ palette_entry s a b ws i
unfolding palette_entry
entry_is s a b w ws x i e ew = e ∙ ap (blend_of s a b) ew
