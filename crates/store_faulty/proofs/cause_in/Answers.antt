use mathlib.Core.Path.{sym, ◌∙◌}
use Rattle.store_faulty.proofs.Forms.{cause_damaged, cause_refusal}
use Rattle.store_faulty.proofs.cause_in.Goals as goal

pub returns-then-is_damaged : goal.returns-then-is_damaged
returns-then-is_damaged g c = cause_damaged _ _ _ (sym c.is_damaged.ensures ∙ c.if-is_damaged.true)

pub returns : goal.returns
returns g c = cause_refusal _ _ _ (sym c.is_damaged.ensures ∙ c.if-is_damaged.false) c.refusal.ensures
