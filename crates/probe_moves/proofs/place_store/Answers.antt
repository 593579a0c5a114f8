use mathlib.Core.Path.{ap, ◌∙◌}
use Rattle.probe_moves.specs.Moves.{moved_at}
use Rattle.probe_moves.proofs.Moving.{place_room, moved_refused, moved_done, placed_length}
use Rattle.probe_moves.proofs.place_store.Goals as goal

pub returns-then-fault-ne-DONE : goal.returns-then-fault-ne-DONE
returns-then-fault-ne-DONE c = moved_refused _ _ _ c.placing_fault-fault.ensures c.if-fault-ne-DONE.true c.refused.ensures

pub place_records-requires : goal.place_records-requires
place_records-requires c = place_room _ _ c.placing_fault-fault.ensures c.if-fault-ne-DONE.false

pub returns : goal.returns
returns c = moved_done _ _ _ c.placing_fault-fault.ensures _ c.if-fault-ne-DONE.false (c.done.ensures ∙ ap (moved_at 0 0) c.record_count.ensures) (placed_length _) c.place_records.ensures
