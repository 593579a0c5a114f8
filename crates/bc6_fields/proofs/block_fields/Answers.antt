-- `bc6_fields::block_fields` meets its contract. Assumes nothing.
use borrow.Author.Rules.{rules}
use mathlib.Core.Path.{refl, ◌∙◌, sym}
use Rattle.bc6_fields.proofs.Calls.{bad_format_lem, bad_block, bad_mode, all_read, mode_read}
use Rattle.bc6_fields.proofs.block_fields.Goals as goal

pub returns-then-format-gt1 : goal.returns-then-format-gt1
returns-then-format-gt1 c = bad_format_lem _ _ c.if-format-gt1.true refl

pub returns-then-block-ne-SIZE : goal.returns-then-block-ne-SIZE
returns-then-block-ne-SIZE c = bad_block _ _ (search rules) c.if-block-ne-SIZE.true refl

pub returns-then-fields-eq0 : goal.returns-then-fields-eq0
returns-then-fields-eq0 c = bad_mode _ _ (search rules) c.if-block-ne-SIZE.false (mode_read _ _ c.fields_of-fields.ensures ∙ c.if-fields-eq0.true) refl

pub returns : goal.returns
returns c = all_read _ _ (search rules) c.if-block-ne-SIZE.false (λ z. c.if-fields-eq0.false (sym (mode_read _ _ c.fields_of-fields.ensures) ∙ z)) c.fields_of-fields.ensures
