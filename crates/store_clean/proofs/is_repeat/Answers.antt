use mathlib.Core.Path.{sym, ◌∙◌}
use Rattle.store_records.proofs.Readings.{unrefused, format_is, refused}
use Rattle.store_spec.proofs.Shown.{part_length}
use Rattle.store_clean.proofs.Repeating as laws
use Rattle.store_clean.proofs.is_repeat.Goals as goal

pub returns-in_default : goal.returns-in_default
returns-in_default c = sym (laws.repeats_refused _ _ _ (refused c.record_at.ensures c.in_default.is))

pub returns-in_default-record_at : goal.returns-in_default-record_at
returns-in_default-record_at c = sym (laws.other_refused _ _ _ (unrefused c.record_at.ensures c.in-Ok.is) (refused c.record_at-2.ensures c.in_default-record_at.is))

pub returns-then-again-kept : goal.returns-then-again-kept
returns-then-again-kept c = sym (laws.two_formats _ _ _ (unrefused c.record_at.ensures c.in-Ok.is) (unrefused c.record_at-2.ensures c.in-Ok-record_at.is) (format_is c.record_at.ensures c.in-Ok.is) (format_is c.record_at-2.ensures c.in-Ok-record_at.is) c.if-again-kept.true)

pub mode_at-mode-requires : goal.mode_at-mode-requires
mode_at-mode-requires c = unrefused c.record_at.ensures c.in-Ok.is

pub returns-then-mode-eq0 : goal.returns-then-mode-eq0
returns-then-mode-eq0 c = sym (laws.repeats_reserved _ _ _ (sym c.mode_at-mode.ensures ∙ c.if-mode-eq0.true))

pub same_block-requires : goal.same_block-requires
same_block-requires c = (part_length _ _ (unrefused c.record_at.ensures c.in-Ok.is) c.record_block.ensures, part_length _ _ (unrefused c.record_at-2.ensures c.in-Ok-record_at.is) c.record_block-2.ensures)

pub returns : goal.returns
returns c = laws.same_blocks _ _ _ (unrefused c.record_at.ensures c.in-Ok.is) (unrefused c.record_at-2.ensures c.in-Ok-record_at.is) (format_is c.record_at.ensures c.in-Ok.is) (format_is c.record_at-2.ensures c.in-Ok-record_at.is) c.if-again-kept.false (λ z. c.if-mode-eq0.false (c.mode_at-mode.ensures ∙ z)) c.record_block.ensures c.record_block-2.ensures c.same_block.ensures
