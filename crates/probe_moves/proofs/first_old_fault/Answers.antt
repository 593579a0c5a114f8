use Prim.Native.Nat.{◌-◌}
use mathlib.Core.Path.{◌∙◌}
use Rattle.laws.proofs.Firsts.{first_none, first_more}
use Rattle.probe_places.proofs.Faults.{passes, fault_here, fault_none}
use borrow.Author.Rules.{rules}
use Rattle.probe_moves.proofs.first_old_fault.Goals as goal

pub loop-n-init : goal.loop-n-init
loop-n-init c = (search rules, first_none _)

pub returns-then-refusal-ne-DONE : goal.returns-then-refusal-ne-DONE
returns-then-refusal-ne-DONE c = fault_here _ _ c.loop-n.invariant.1 (search rules) (c.answer_number-refusal.ensures ∙ c.record_at.ensures.answers) c.if-refusal-ne-DONE.true

pub loop-n-preserved : goal.loop-n-preserved
loop-n-preserved c = (search rules, first_more _ _ c.loop-n.invariant.1 (passes _ (c.answer_number-refusal.ensures ∙ c.record_at.ensures.answers) c.if-refusal-ne-DONE.false))

pub returns : goal.returns
returns c = c.none.ensures ∙ fault_none _ _ c.loop-n.invariant.1 (search rules) (search rules)
