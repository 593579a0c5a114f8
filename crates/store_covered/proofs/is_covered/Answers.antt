-- `store_covered::is_covered` meets its contract. Assumes nothing.
use Rattle.store_records.proofs.Readings.{unrefused, format_is, refused}
use Rattle.store_covered.proofs.Covering as laws
use Rattle.store_covered.proofs.is_covered.Goals as goal

pub returns-in_default : goal.returns-in_default
returns-in_default c = laws.covered_refused _ _ _ (refused c.record_at.ensures c.in_default.is)

pub returns-in_default-record_at : goal.returns-in_default-record_at
returns-in_default-record_at c =
    laws.covered_other_refused _ _ _ (unrefused c.record_at.ensures c.in-Ok.is)
    (refused c.record_at-2.ensures c.in_default-record_at.is)

pub returns-then-found-kept : goal.returns-then-found-kept
returns-then-found-kept c =
    laws.covered_two_formats _ _ _ (unrefused c.record_at.ensures c.in-Ok.is) (unrefused c.record_at-2.ensures c.in-Ok-record_at.is)
    (format_is c.record_at.ensures c.in-Ok.is) (format_is c.record_at-2.ensures c.in-Ok-record_at.is) c.if-found-kept.true

pub returns : goal.returns
returns c =
    laws.covered_blocks _ _ _ (unrefused c.record_at.ensures c.in-Ok.is) (unrefused c.record_at-2.ensures c.in-Ok-record_at.is)
    (format_is c.record_at.ensures c.in-Ok.is) (format_is c.record_at-2.ensures c.in-Ok-record_at.is) c.if-found-kept.false
    c.record_block.ensures c.record_block-2.ensures c.is_covered_pair.ensures
