-- `store_trust::region_passes` meets its contract. Assumes nothing.
use mathlib.Core.Path.{refl, sym, ◌∙◌}
use Rattle.store_trust.specs.Ramp.{region_passes}
use Rattle.store_trust.proofs.region_passes.Goals as goal

pub returns-then-not-reaches : goal.returns-then-not-reaches
unfolding region_passes
returns-then-not-reaches c = rw (sym c.reaches.ensures ∙ c.if-not-reaches.true) refl

pub returns-then-not-reaches-2 : goal.returns-then-not-reaches-2
unfolding region_passes
returns-then-not-reaches-2 c = rw (sym c.reaches.ensures ∙ c.if-not-reaches.false, sym c.reaches-2.ensures ∙ c.if-not-reaches-2.true) refl

pub returns : goal.returns
unfolding region_passes
returns c =
    c.some_channel_differs.ensures
    ∙ rw (sym c.reaches.ensures ∙ c.if-not-reaches.false, sym c.reaches-2.ensures ∙ c.if-not-reaches-2.false) refl
