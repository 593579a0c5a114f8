-- `store_trust::palettes_of` meets its contract. Assumes nothing.
use mathlib.Core.Path.{ap, ◌∙◌}
use borrow.Author.Rules.{rules}
use Rattle.bc6h_spec.specs.Block.{pixels_of}
use Rattle.store_trust.proofs.Verdict.{values_written}
use Rattle.store_trust.proofs.palettes_of.Goals as goal

pub returns : goal.returns
returns c =
    values_written _ c.block_pixels.ensures (search rules) (search rules) (search rules)
    ∙ ap (pixels_of _) c.ramped-ramp.ensures
