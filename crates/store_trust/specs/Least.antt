-- S-84: a colour with a channel at −2^(p−1), as the code looks for it. Assumes nothing.
use Rattle.std.specs.Prelude.{Bool, ℕ, ◌*◌}
use Rattle.laws.specs.Pick.{either}
use Rattle.bc6h_spec.specs.declared.Fields.{Fields}
use Rattle.bc6_colour.specs.declared.Colour.{Colour}
use Rattle.store_copies.specs.Wide.{regions}
use Rattle.store_copies.specs.Trust.{is_least}

abbrev pub least_of : ℕ → Colour → Bool
least_of p c = either (is_least p c.r) (either (is_least p c.g) (is_least p c.b))

-- how many endpoints a block's mode has
abbrev pub end_count : Fields → ℕ
end_count f = 2 * regions f.mode
