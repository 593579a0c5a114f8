use borrow.Author.Tests.{ne_eqb}
use mathlib.Core.Path.{sym, ◌∙◌}
use Rattle.store_records.proofs.Readings.{unrefused, format_is, refused}
use Rattle.store_spec.proofs.Marking.{holding_refused, holding_other, holding_mode}
use Rattle.store_marks.proofs.holds_picture.Goals as goal

pub returns-in_default : goal.returns-in_default
returns-in_default c = sym (holding_refused _ _ _ (refused c.record_at.ensures c.in_default.is))

pub mode_at-requires : goal.mode_at-requires
mode_at-requires c = unrefused c.record_at.ensures c.in-Ok.is

pub returns-then-found-format : goal.returns-then-found-format
returns-then-found-format c = let r = c.record_at.ensures in let e = c.in-Ok.is in holding_mode _ _ _ (unrefused r e) (sym (format_is r e) ∙ c.if-found-format.true) c.mode_at.ensures

pub returns-else-found-format : goal.returns-else-found-format
returns-else-found-format c =
    let r = c.record_at.ensures in
    let e = c.in-Ok.is in
    ne_eqb _ _ c.if-found-format.false ∙ sym (holding_other _ _ _ (unrefused r e) (λ q. c.if-found-format.false (format_is r e ∙ q)))
