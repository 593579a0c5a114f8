use Rattle.probe_moves.proofs.Calls.{place_few, place_few_told}
use Rattle.knotpasture.proofs.ProbeWords.{place_called}
use Rattle.knotpasture.proofs.probes.knot_place_store.Goals as goal

pub moved_word-requires : goal.moved_word-requires
moved_word-requires c = (place_few _ c.place_store.ensures, place_few_told _ c.place_store.ensures)

pub returns : goal.returns
returns c = place_called c.place_store.ensures c.moved_word.ensures
