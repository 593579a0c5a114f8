-- `store_trust::is_ambiguous` meets its contract. Assumes nothing.
use borrow.Author.Tests.{eq-eqb, ne_eqb}
use mathlib.Core.Path.{refl, ◌∙◌}
use Rattle.store_trust.proofs.is_ambiguous.Goals as goal

pub returns-then-format-ne1 : goal.returns-then-format-ne1
returns-then-format-ne1 c = rw (ne_eqb _ 1 c.if-format-ne1.true) refl

pub returns : goal.returns
returns c = c.has_least.ensures ∙ rw (eq-eqb _ 1 c.if-format-ne1.false) refl
