use mathlib.Core.Path.{sym, ◌∙◌}
use Rattle.store_receipt.proofs.Telling.{met_first, met_next}
use Rattle.store_receipt.proofs.receipt_refusal.Goals as goal

pub returns-then-refusal-ne-DONE : goal.returns-then-refusal-ne-DONE
returns-then-refusal-ne-DONE c = sym (met_first _ _ _ _ (sym c.list_refusal-refusal.ensures) c.if-refusal-ne-DONE.true)

pub returns : goal.returns
returns c = c.list_refusal.ensures ∙ sym (met_next _ _ _ (sym c.list_refusal-refusal.ensures ∙ c.if-refusal-ne-DONE.false))
