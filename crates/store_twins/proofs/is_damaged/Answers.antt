use Rattle.store_records.proofs.Readings.{unrefused, refused}
use Rattle.store_twins.proofs.Strictness.{damaged_refused, damaged_mode}
use Rattle.store_twins.proofs.is_damaged.Goals as goal

pub returns-in_default : goal.returns-in_default
returns-in_default c = damaged_refused _ _ (refused c.record_at.ensures c.in_default.is)

pub mode_at-requires : goal.mode_at-requires
mode_at-requires c = unrefused c.record_at.ensures c.in-Ok.is

pub returns : goal.returns
returns c = damaged_mode _ _ (unrefused c.record_at.ensures c.in-Ok.is) c.mode_at.ensures
