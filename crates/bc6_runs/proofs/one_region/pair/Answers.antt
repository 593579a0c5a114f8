-- `bc6_runs::one_region::pair` meets its contract. Assumes nothing.
use mathlib.Core.List.{[], ◌∷◌}
use mathlib.Core.Path.{◌∙◌, ap}
use lib.IntN.{pos}
use Rattle.laws.proofs.Num.{widened}
use Rattle.bc6_runs.proofs.one_region.pair.Goals as goal

pub returns : goal.returns
returns c =
    let a = c.lane in
    let b = c.lane-2 in
    λ i. (widened a.type_inv ∙ ap pos a.ensures) i ∷ (widened b.type_inv ∙ ap pos b.ensures) i ∷ pos 0 ∷ pos 0 ∷ []
