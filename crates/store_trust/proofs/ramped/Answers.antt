-- `store_trust::ramped` meets its contract. Assumes nothing.
use borrow.Author.Rules.{rules}
use mathlib.Core.Path.{refl, ◌∙◌}
use Rattle.store_trust.specs.Ramp.{ramped}
use Rattle.store_trust.proofs.ramped.Goals as goal

pub ramped_two-requires : goal.ramped_two-requires
unfolding ramped
ramped_two-requires c = search rules

pub returns-then-two : goal.returns-then-two
unfolding ramped
returns-then-two c = c.ramped_two.ensures ∙ rw c.if-two.true refl

pub ramped_one-requires : goal.ramped_one-requires
unfolding ramped
ramped_one-requires c = search rules

pub returns : goal.returns
unfolding ramped
returns c = c.ramped_one.ensures ∙ rw c.if-two.false refl
