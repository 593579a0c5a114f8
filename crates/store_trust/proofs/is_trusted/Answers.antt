-- `store_trust::is_trusted` meets its contract. Assumes nothing.
use borrow.Author.Rules.{rules}
use Rattle.store_trust.proofs.Verdict.{other_format, other_length, reserved, mode_above, valid, ambiguous, decided}
use Rattle.store_trust.proofs.is_trusted.Goals as goal

pub returns-then-format-gt1 : goal.returns-then-format-gt1
returns-then-format-gt1 c = other_format _ _ c.if-format-gt1.true

pub returns-then-block-ne-SIZE : goal.returns-then-block-ne-SIZE
returns-then-block-ne-SIZE c = other_length _ _ c.if-block-ne-SIZE.true

pub returns-then-mode-eq0 : goal.returns-then-mode-eq0
returns-then-mode-eq0 c = reserved _ _ _ c.fields_of-fields.ensures c.if-mode-eq0.true

pub returns-then-mode-gt13 : goal.returns-then-mode-gt13
returns-then-mode-gt13 c = mode_above _ _ _ c.fields_of-fields.ensures c.if-mode-gt13.true

pub is_ambiguous-requires : goal.is_ambiguous-requires
is_ambiguous-requires c = valid c.args.format _ _ c.fields_of-fields.ensures (search rules) c.if-mode-eq0.false

pub returns-then-is_ambiguous : goal.returns-then-is_ambiguous
returns-then-is_ambiguous c = ambiguous _ _ _ c.fields_of-fields.ensures _ c.is_ambiguous.ensures c.if-is_ambiguous.true

pub all_pass-requires : goal.all_pass-requires
all_pass-requires c = (valid c.args.format _ _ c.fields_of-fields.ensures (search rules) c.if-mode-eq0.false).partition_fits

pub returns : goal.returns
returns c =
    decided _ _ _ c.fields_of-fields.ensures _ c.palettes_of-palettes.ensures (search rules) (λ k. (c.shared_slice_known-1.given k).fits)
    (search rules) c.if-mode-eq0.false (search rules) _ _ c.is_ambiguous.ensures c.if-is_ambiguous.false c.all_pass.ensures
