use Rattle.probe_moves.proofs.Moving.{unplace_room, moved_refused, moved_done, old_length}
use Rattle.probe_moves.proofs.unplace_store.Goals as goal

pub returns-then-fault-ne-DONE : goal.returns-then-fault-ne-DONE
returns-then-fault-ne-DONE c = moved_refused _ _ _ c.unplacing_fault-fault.ensures c.if-fault-ne-DONE.true c.refused.ensures

pub unplace_records-requires : goal.unplace_records-requires
unplace_records-requires c = unplace_room _ _ c.unplacing_fault-fault.ensures c.if-fault-ne-DONE.false

pub returns : goal.returns
returns c = moved_done _ _ _ c.unplacing_fault-fault.ensures _ c.if-fault-ne-DONE.false c.done.ensures (old_length _) c.unplace_records.ensures
