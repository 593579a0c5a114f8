use Rattle.probe_moves.specs.Moves.{unplacing_fault}
use Rattle.probe_places.proofs.Faults.{whole_refuses, whole_passes}
use Rattle.probe_moves.proofs.Checks.{long, uneven, short, enough}
use borrow.Author.Rules.{rules}
use Rattle.probe_moves.proofs.unplacing_fault.Goals as goal

pub returns-then-store-gt-STORE : goal.returns-then-store-gt-STORE
unfolding unplacing_fault
returns-then-store-gt-STORE c = whole_refuses 4 _ (long _ _ _ _ _ (search rules)) c.alone.ensures

pub returns-then-store-ne0 : goal.returns-then-store-ne0
unfolding unplacing_fault
returns-then-store-ne0 c = whole_refuses 5 _ (uneven _ _ _ _ _ (search rules) (search rules)) c.alone-then-store-ne0.ensures

pub returns-then-room-store : goal.returns-then-room-store
unfolding unplacing_fault
returns-then-room-store c = whole_refuses 2 _ (short _ _ _ _ _ (search rules) (search rules) (search rules)) c.alone-then-room-store.ensures

pub returns : goal.returns
unfolding unplacing_fault
returns c = whole_passes (enough _ _ _ _ _ (search rules) (search rules) (search rules)) c.first_back_fault.ensures
