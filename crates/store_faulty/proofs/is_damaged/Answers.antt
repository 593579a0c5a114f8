use mathlib.Core.Path.{sym, ◌∙◌}
use Rattle.store_faulty.proofs.Forms.{refused_undamaged, damaged_by_mode}
use Rattle.store_faulty.proofs.is_damaged.Goals as goal

pub returns-then-refusal-ne-DONE : goal.returns-then-refusal-ne-DONE
returns-then-refusal-ne-DONE g c = refused_undamaged _ _ _ c.refusal.ensures c.if-refusal-ne-DONE.true

pub returns : goal.returns
returns g c = damaged_by_mode _ _ _ (sym c.refusal.ensures ∙ c.if-refusal-ne-DONE.false) c.mode_in.ensures
