-- `probe_open::probe_pixel_in` meets its contract. Assumes nothing.
use borrow.Author.Rules.{rules}
use mathlib.Core.Path.{sym, ◌∙◌}
use native.Mathlib.Omega.{arith}
use Rattle.probe.proofs.Checking.{inside}
use Rattle.probe_open.proofs.Asking.{ask_no_edge, ask_long_edge, ask_question, ask_short, ask_holder, ask_done, holder_known}
use Rattle.probe_open.proofs.probe_pixel_in.Goals as goal

pub returns-then-edge-eq0 : goal.returns-then-edge-eq0
returns-then-edge-eq0 c = ask_no_edge _ _ _ _ _ _ (search rules) c.refused.ensures

pub returns-then-edge-gt-EDGE : goal.returns-then-edge-gt-EDGE
returns-then-edge-gt-EDGE c = ask_long_edge _ _ _ _ _ _ (search rules) c.refused-then-edge-gt-EDGE.ensures

pub returns-then-question-ne-DONE : goal.returns-then-question-ne-DONE
returns-then-question-ne-DONE c = ask_question _ _ _ _ _ _ c.if-edge-eq0.false (search rules) c.question_refusal-question.ensures c.if-question-ne-DONE.true c.refused-then-question-ne-DONE.ensures

pub returns-then-table-lt-PLACES : goal.returns-then-table-lt-PLACES
returns-then-table-lt-PLACES c = ask_short _ _ _ _ _ _ c.if-edge-eq0.false (search rules) (sym c.question_refusal-question.ensures ∙ c.if-question-ne-DONE.false) (search rules) c.refused-then-table-lt-PLACES.ensures

pub holder_at-holder-requires : goal.holder_at-holder-requires
holder_at-holder-requires c =
    let i = inside _ _ _ _ (sym c.question_refusal-question.ensures ∙ c.if-question-ne-DONE.false) in
    (search rules, search rules, i.face_inside, omega (arith, i.x_inside), omega (arith, i.y_inside))

pub returns-then-refusal-ne-DONE : goal.returns-then-refusal-ne-DONE
returns-then-refusal-ne-DONE c = ask_holder _ _ _ _ _ _ c.if-edge-eq0.false (search rules) (sym c.question_refusal-question.ensures ∙ c.if-question-ne-DONE.false) (search rules) c.holder_at-holder.ensures c.holder_refusal-refusal.ensures c.if-refusal-ne-DONE.true c.refused-then-refusal-ne-DONE.ensures

pub overflow_sub-holder : goal.overflow_sub-holder
overflow_sub-holder c = (holder_known _ _ c.holder_refusal-refusal.ensures c.if-refusal-ne-DONE.false).there

pub triple_at-triple-requires : goal.triple_at-triple-requires
triple_at-triple-requires c = let k = holder_known _ _ c.holder_refusal-refusal.ensures c.if-refusal-ne-DONE.false in (k.inside, k.format, omega arith)

pub returns : goal.returns
returns c = ask_done _ _ _ _ _ _ c.if-edge-eq0.false (search rules) (sym c.question_refusal-question.ensures ∙ c.if-question-ne-DONE.false) (search rules) c.holder_at-holder.ensures c.holder_refusal-refusal.ensures c.if-refusal-ne-DONE.false c.triple_at-triple.ensures
