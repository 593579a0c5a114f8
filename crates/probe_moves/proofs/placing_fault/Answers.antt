use Rattle.probe_moves.specs.Moves.{placing_fault}
use Rattle.probe_places.proofs.Faults.{whole_refuses, whole_passes}
use Rattle.probe_moves.proofs.Checks.{long, uneven, short, enough}
use borrow.Author.Rules.{rules}
use Rattle.probe_moves.proofs.placing_fault.Goals as goal

pub returns-then-old-gt-STORE : goal.returns-then-old-gt-STORE
unfolding placing_fault
returns-then-old-gt-STORE c = whole_refuses 4 _ (long _ _ _ _ _ (search rules)) c.alone.ensures

pub returns-then-old-ne0 : goal.returns-then-old-ne0
unfolding placing_fault
returns-then-old-ne0 c = whole_refuses 5 _ (uneven _ _ _ _ _ (search rules) (search rules)) c.alone-then-old-ne0.ensures

pub returns-then-room-record_count : goal.returns-then-room-record_count
unfolding placing_fault
returns-then-room-record_count c = whole_refuses 2 _ (short _ _ _ _ _ (search rules) (search rules) (search rules)) c.alone-then-room-record_count.ensures

pub returns : goal.returns
unfolding placing_fault
returns c = whole_passes (enough _ _ _ _ _ (search rules) (search rules) (search rules)) c.first_old_fault.ensures
