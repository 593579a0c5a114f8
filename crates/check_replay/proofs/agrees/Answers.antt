use mathlib.Core.Path.{sym, ◌∙◌}
use Rattle.bc6.proofs.Calls.{told_answer}
use Rattle.check_replay.specs.Entries.{entry_block}
use Rattle.check_replay.proofs.Replayed.{other_number, other_mode, other_count, by_values}
use Rattle.check_replay.proofs.agrees.Goals as goal

pub returns-then-answer_number-entry : goal.returns-then-answer_number-entry
unfolding entry_block
returns-then-answer_number-entry c = other_number c.args.entry.now _ _ c.block_pixels-told.ensures (λ e. c.if-answer_number-entry.true (c.answer_number.ensures ∙ sym (told_answer _) ∙ e))

pub returns-then-shown-entry : goal.returns-then-shown-entry
unfolding entry_block
returns-then-shown-entry c =
    other_mode c.args.entry.now _ _ c.block_pixels-told.ensures
    (told_answer _ ∙ sym c.answer_number.ensures ∙ c.if-answer_number-entry.false) (λ e. c.if-shown-entry.true (c.shown_of-shown.ensures.mode_value ∙ e))

pub returns-then-shown-infinite_in : goal.returns-then-shown-infinite_in
unfolding entry_block
returns-then-shown-infinite_in c =
    other_count c.args.entry.now _ _ c.block_pixels-told.ensures c.infinite_in.ensures
    (told_answer _ ∙ sym c.answer_number.ensures ∙ c.if-answer_number-entry.false) (sym c.shown_of-shown.ensures.mode_value ∙ c.if-shown-entry.false)
    (λ e. c.if-shown-infinite_in.true (c.shown_of-shown.ensures.infinite_value ∙ e))

pub returns : goal.returns
unfolding entry_block
returns c =
    by_values c.args.entry.now _ c.block_pixels-told.new.out c.block_pixels-told.ensures c.same_values.ensures c.infinite_in.ensures
    (told_answer _ ∙ sym c.answer_number.ensures ∙ c.if-answer_number-entry.false) (sym c.shown_of-shown.ensures.mode_value ∙ c.if-shown-entry.false)
    (sym c.shown_of-shown.ensures.infinite_value ∙ c.if-shown-infinite_in.false)
