-- How many bits the sixteen indices of a block take. Assumes nothing.
use mathlib.Core.Path.{◌≡◌, refl}
use mathlib.Core.List.{[], ◌∷◌}
use Rattle.laws.specs.Packed.{before}
use Rattle.bcn_spec.specs.Indices.{stored_bits}

-- S-9, S-14: four bits each and one fix-up pixel; three bits each and two of them
one_region : before (stored_bits 4 (0 ∷ [])) 16 ≡ 63
unfolding before
one_region = refl

two_regions_lem : before (stored_bits 3 (0 ∷ 15 ∷ [])) 16 ≡ 46
unfolding before
two_regions_lem = refl
