use Rattle.knotpasture.proofs.ProbeWords.{put_called, put_few, put_few_told}
use Rattle.knotpasture.proofs.probes.knot_put_place.Goals as goal

pub moved_word-requires : goal.moved_word-requires
moved_word-requires c = (put_few _ _ _ c.put_place.ensures, put_few_told _ _ _ c.put_place.ensures)

pub returns : goal.returns
returns c = put_called _ _ _ c.put_place.ensures c.moved_word.ensures
