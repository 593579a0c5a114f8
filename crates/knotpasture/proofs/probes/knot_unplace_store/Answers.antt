use Rattle.probe_moves.proofs.Calls.{unplace_few, unplace_few_told}
use Rattle.knotpasture.proofs.ProbeWords.{unplace_called}
use Rattle.knotpasture.proofs.probes.knot_unplace_store.Goals as goal

pub moved_word-requires : goal.moved_word-requires
moved_word-requires c = (unplace_few _ c.unplace_store.ensures, unplace_few_told _ c.unplace_store.ensures)

pub returns : goal.returns
returns c = unplace_called c.unplace_store.ensures c.moved_word.ensures
