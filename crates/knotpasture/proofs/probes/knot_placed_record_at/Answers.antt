use Rattle.knotpasture.proofs.ProbeWords.{placed_called, placed_refused}
use Rattle.knotpasture.proofs.probes.knot_placed_record_at.Goals as goal

pub returns-in-Record : goal.returns-in-Record
returns-in-Record c = placed_called c.placed_record_at-reading.ensures c.in-Record.is

pub returns-in-Refused : goal.returns-in-Refused
returns-in-Refused c = placed_refused c.placed_record_at-reading.ensures c.in-Refused.is
