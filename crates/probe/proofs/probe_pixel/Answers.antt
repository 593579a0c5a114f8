use mathlib.Core.Path.{refl}
use Rattle.probe.proofs.Holding.{held_none}
use Rattle.probe.proofs.Asking.{asked_fault, is_probe, asked_range, asked_outside, asked_done}
use Rattle.probe.proofs.probe_pixel.Goals as goal

pub check_places-fault-requires : goal.check_places-fault-requires
check_places-fault-requires c = held_none _ _ refl

pub returns-then-fault-ne-DONE : goal.returns-then-fault-ne-DONE
returns-then-fault-ne-DONE c = asked_fault _ _ _ c.check_places-fault.ensures c.if-fault-ne-DONE.true c.refused.ensures

pub returns-then-question-ne-DONE : goal.returns-then-question-ne-DONE
returns-then-question-ne-DONE c = asked_outside _ _ _ c.check_places-fault.ensures c.if-fault-ne-DONE.false c.question_refusal-question.ensures c.if-question-ne-DONE.true c.refused-then-question-ne-DONE.ensures

pub show_pixel-triple-requires : goal.show_pixel-triple-requires
show_pixel-triple-requires c = let d = c.check_places-fault.ensures in let z = c.if-fault-ne-DONE.false in record { probe = is_probe d z; held = d.holds z; in_range = asked_range _ _ _ d z c.question_refusal-question.ensures c.if-question-ne-DONE.false }

pub returns : goal.returns
returns c = asked_done _ _ _ c.check_places-fault.ensures c.if-fault-ne-DONE.false c.question_refusal-question.ensures c.if-question-ne-DONE.false c.show_pixel-triple.ensures
