use borrow.Author.Rules.{rules}
use mathlib.Core.Path.{sym, ◌∙◌}
use Rattle.store_twins.proofs.Strictness as laws
use Rattle.store_twins.proofs.strict_twin_list.Goals as goal

pub returns-then-ordinary-ne-DONE : goal.returns-then-ordinary-ne-DONE
returns-then-ordinary-ne-DONE c = laws.strictly_refused _ _ _ c.list_refusal-ordinary.ensures c.if-ordinary-ne-DONE.true c.refused.ensures

pub returns-then-first_damaged-record_count : goal.returns-then-first_damaged-record_count
returns-then-first_damaged-record_count c = laws.strictly_damaged _ _ (sym c.list_refusal-ordinary.ensures ∙ c.if-ordinary-ne-DONE.false) c.first_damaged.ensures (search rules) c.refused-then-first_damaged-record_count.ensures

pub returns : goal.returns
returns c = laws.strictly_done _ _ (sym c.list_refusal-ordinary.ensures ∙ c.if-ordinary-ne-DONE.false) c.first_damaged.ensures (search rules) c.twin_list.ensures
