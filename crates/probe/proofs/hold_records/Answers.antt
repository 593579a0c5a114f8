use Prim.Native.Nat.{◌-◌}
use mathlib.Core.Path.{refl, sym, ◌∙◌, ap}
use native.Mathlib.Omega.{arith}
use Rattle.laws.proofs.Firsts.{first_none, first_more}
use Rattle.probe_places.proofs.Faults.{passes, passed_by, fault_here, fault_none}
use Rattle.probe.specs.Probe.{place_number}
use Rattle.probe.proofs.Spots.{parts, standing}
use Rattle.probe.proofs.Holding.{held_more, held_all, held_refused}
use borrow.Author.Rules.{rules}
use Rattle.probe.proofs.hold_records.Goals as goal

pub loop-n-init : goal.loop-n-init
loop-n-init c = (search rules, first_none _, c.requires.held)

pub record_fault-answer-requires : goal.record_fault-answer-requires
record_fault-answer-requires c = let i = c.loop-n.invariant in record { edge_le_edge_limit = c.requires.edge_le_edge_limit; n_bound = search rules; by_index = passed_by _ _ i.1; held = i.2 }

pub shape_of-holders-then-answer-ne-DONE : goal.shape_of-holders-then-answer-ne-DONE
shape_of-holders-then-answer-ne-DONE c = c.loop-n.invariant.2.size ∙ sym c.requires.held.size

pub returns-then-answer-ne-DONE : goal.returns-then-answer-ne-DONE
returns-then-answer-ne-DONE c = held_refused _ _ (fault_here _ _ c.loop-n.invariant.1 (search rules) c.record_fault-answer.ensures c.if-answer-ne-DONE.true) c.if-answer-ne-DONE.true

pub number_of-number-requires : goal.number_of-number-requires
number_of-number-requires c = let s = standing _ _ _ (sym c.record_fault-answer.ensures ∙ c.if-answer-ne-DONE.false) in let q = parts c.place_at.ensures in let e = c.requires.edge_le_edge_limit in (omega arith, omega arith, omega arith)

pub loop-n-preserved : goal.loop-n-preserved
loop-n-preserved c = let i = c.loop-n.invariant in (search rules, first_more _ _ i.1 (passes _ c.record_fault-answer.ensures c.if-answer-ne-DONE.false), held_more i.2 (c.number_of-number.ensures.0 ∙ ap place_number c.place_at.ensures) c.number_of-number.ensures.1 refl)

pub shape_of-holders : goal.shape_of-holders
shape_of-holders c = c.loop-n.invariant.2.size ∙ sym c.requires.held.size

pub returns : goal.returns
returns c = held_all _ _ (c.none.ensures ∙ fault_none _ _ c.loop-n.invariant.1 (search rules) (search rules)) c.loop-n.invariant.2 (search rules) (search rules)
