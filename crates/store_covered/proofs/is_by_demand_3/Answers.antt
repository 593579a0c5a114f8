-- `store_covered::is_by_demand_3` meets its contract. Assumes nothing.
use mathlib.Core.Path.{sym, ◌∙◌}
use Rattle.store_records.proofs.Readings.{unrefused, format_is, refused}
use Rattle.store_covered.proofs.Covering as laws
use Rattle.store_covered.proofs.is_by_demand_3.Goals as goal

pub returns-then-not-is_covered : goal.returns-then-not-is_covered
returns-then-not-is_covered c = laws.demand_3_uncovered _ _ _ (sym c.is_covered.ensures ∙ c.if-not-is_covered.true)

pub returns-in_default : goal.returns-in_default
returns-in_default c = absurd (laws.covered_unrefused _ _ _ (sym c.is_covered.ensures ∙ c.if-not-is_covered.false) (refused c.record_at.ensures c.in_default.is))

pub returns-then-found-ne0 : goal.returns-then-found-ne0
returns-then-found-ne0 c =
    laws.demand_3_signed _ _ _ (sym c.is_covered.ensures ∙ c.if-not-is_covered.false)
    (λ e. c.if-found-ne0.true (format_is c.record_at.ensures c.in-Ok.is ∙ e))

pub fields_of-fields-requires : goal.fields_of-fields-requires
fields_of-fields-requires c =
    laws.covered_length _ _ _ (sym c.is_covered.ensures ∙ c.if-not-is_covered.false)
    (unrefused c.record_at.ensures c.in-Ok.is) c.record_block.ensures

pub returns : goal.returns
returns c =
    laws.demand_3_modes _ _ _ (sym c.is_covered.ensures ∙ c.if-not-is_covered.false)
    (sym (format_is c.record_at.ensures c.in-Ok.is) ∙ c.if-found-ne0.false)
    (unrefused c.record_at.ensures c.in-Ok.is) c.record_block.ensures c.fields_of-fields.ensures
