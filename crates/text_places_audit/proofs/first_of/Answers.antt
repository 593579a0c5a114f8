use mathlib.Core.Path.{sym, ◌∙◌}
use Rattle.laws.proofs.Firsts.{first_none, first_more, first_end, first_at}
use Rattle.text_places_audit.specs.Copies.{first_in}
use borrow.Author.Rules.{rules}
use Rattle.text_places_audit.proofs.first_of.Goals as goal

pub loop-earlier-init : goal.loop-earlier-init
loop-earlier-init c = (search rules, first_none _)

pub returns-then-is_repeat : goal.returns-then-is_repeat
unfolding first_in
returns-then-is_repeat c = record { upper_bound = search rules; value = sym (first_at _ _ _ c.loop-earlier.invariant.1 (sym c.is_repeat.ensures ∙ c.if-is_repeat.true) (search rules)) }

pub loop-earlier-preserved : goal.loop-earlier-preserved
loop-earlier-preserved c = (search rules, first_more _ _ c.loop-earlier.invariant.1 (sym c.is_repeat.ensures ∙ c.if-is_repeat.false))

pub returns : goal.returns
unfolding first_in
returns c = record { upper_bound = search rules; value = sym (first_end _ _ _ (search rules) (search rules) c.loop-earlier.invariant.1) }
