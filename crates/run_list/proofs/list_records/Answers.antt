use Rattle.store_twins.proofs.Strictness as strictly
use Rattle.run_list.proofs.Whole as texts
use Rattle.run_list.proofs.list_records.Goals as goal

pub returns-then-strict : goal.returns-then-strict
returns-then-strict c =
    let d = c.strict_twin_list.ensures in
    record { answer_value = texts.strict_number c.requires c.if-strict.true d; listed = strictly.list_is d }

pub returns : goal.returns
returns c = let d = c.twin_list.ensures in record { answer_value = texts.ordinary_number c.requires c.if-strict.false d; listed = λ z. d }
