-- S-7, S-16 to S-18: the modes of codes, and what a mode says of its endpoints. Assumes nothing.
use Rattle.std.specs.Prelude.{◌≡◌, ℕ, ◌+◌, ◌*◌, ◌/◌, ◌%◌, ◌^◌, ◌<◌}
use Rattle.bc6h_spec.specs.Layout.{precision, own_width, transformed}
use Rattle.bc6h_spec.specs.Fields.{mode_in}
use Rattle.bc6_mode.specs.declared.ModeBits.{ModeBits}

-- S-7: a word that holds the modes of the codes with these two low bits, four bits a mode
pub record ModesOf (low2 word : ℕ) : Type 0 where
  pub each : (high3 : ℕ) → high3 < 8 → word / 2 ^ (4 * high3) % 2 ^ 4 ≡ mode_in (4 * high3 + low2)

-- S-16 to S-18: the precision of a mode, its own widths, and whether it is transformed
unfoldable pub bits_for : ℕ → ModeBits
bits_for mode =
    record { a0 = precision mode; r = own_width mode 0; g = own_width mode 1; b = own_width mode 2; transformed = transformed mode }
