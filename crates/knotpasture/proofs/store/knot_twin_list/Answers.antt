use Rattle.knotpasture.proofs.StoreWords.{twins_called, few}
use Rattle.knotpasture.proofs.store.knot_twin_list.Goals as goal

pub list_word-requires : goal.list_word-requires
list_word-requires c = few c.twin_list.ensures

pub returns : goal.returns
returns c = twins_called c.twin_list.ensures c.list_word.ensures
