use Rattle.knotpasture.proofs.CleanWords.{restore_called, restored_few}
use Rattle.knotpasture.proofs.clean.knot_restore_store.Goals as goal

pub restored_word-requires : goal.restored_word-requires
restored_word-requires c = restored_few c.restore_store.ensures

pub returns : goal.returns
returns c = restore_called c.restore_store.ensures c.restored_word.ensures
