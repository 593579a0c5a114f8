-- `store_covered::is_covered_pair` meets its contract. Assumes nothing.
use mathlib.Core.Path.{sym, ◌∙◌}
use Rattle.store_covered.proofs.Covering as laws
use Rattle.store_covered.proofs.is_covered_pair.Goals as goal

pub returns-then-not-is_trusted : goal.returns-then-not-is_trusted
returns-then-not-is_trusted c = laws.pair_untrusted _ _ _ (sym c.is_trusted.ensures ∙ c.if-not-is_trusted.true)

pub returns-then-not-is_trusted-2 : goal.returns-then-not-is_trusted-2
returns-then-not-is_trusted-2 c = laws.pair_other_untrusted _ _ _ (sym c.is_trusted.ensures ∙ c.if-not-is_trusted.false) (sym c.is_trusted-2.ensures ∙ c.if-not-is_trusted-2.true)

pub fields_of-fields-requires : goal.fields_of-fields-requires
fields_of-fields-requires c = laws.trusted_length _ _ (sym c.is_trusted.ensures ∙ c.if-not-is_trusted.false)

pub fields_of-earlier_fields-requires : goal.fields_of-earlier_fields-requires
fields_of-earlier_fields-requires c = laws.trusted_length _ _ (sym c.is_trusted-2.ensures ∙ c.if-not-is_trusted-2.false)

pub returns-then-fields-earlier_fields : goal.returns-then-fields-earlier_fields
returns-then-fields-earlier_fields c =
    laws.pair_two_modes _ _ _ (sym c.is_trusted.ensures ∙ c.if-not-is_trusted.false) (sym c.is_trusted-2.ensures ∙ c.if-not-is_trusted-2.false)
    c.fields_of-fields.ensures c.fields_of-earlier_fields.ensures c.if-fields-earlier_fields.true

pub returns : goal.returns
returns c =
    laws.pair_partitions _ _ _ (sym c.is_trusted.ensures ∙ c.if-not-is_trusted.false) (sym c.is_trusted-2.ensures ∙ c.if-not-is_trusted-2.false)
    c.fields_of-fields.ensures c.fields_of-earlier_fields.ensures c.if-fields-earlier_fields.false
