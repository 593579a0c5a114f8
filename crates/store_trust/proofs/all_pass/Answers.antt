-- `store_trust::all_pass` meets its contract. Assumes nothing.
use borrow.Author.Tests.{lt-leb, le-leb}
use mathlib.Core.Path.{refl, sym, ◌∙◌}
use Rattle.store_trust.specs.Ramp.{all_pass}
use Rattle.store_trust.proofs.all_pass.Goals as goal

pub returns-then-fields-gt10 : goal.returns-then-fields-gt10
unfolding all_pass
returns-then-fields-gt10 c = c.region_passes.ensures ∙ rw (lt-leb _ 10 c.if-fields-gt10.true) refl

pub returns-then-not-region_passes : goal.returns-then-not-region_passes
unfolding all_pass
returns-then-not-region_passes c = rw (le-leb _ 10 c.if-fields-gt10.false, sym c.region_passes-2.ensures ∙ c.if-not-region_passes.true) refl

pub returns : goal.returns
unfolding all_pass
returns c =
    c.region_passes-3.ensures
    ∙ rw (le-leb _ 10 c.if-fields-gt10.false, sym c.region_passes-2.ensures ∙ c.if-not-region_passes.false) refl
