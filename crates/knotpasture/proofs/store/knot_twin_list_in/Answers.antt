use Rattle.knotpasture.proofs.StoreWords.{twins_in_called, few_in}
use Rattle.knotpasture.proofs.store.knot_twin_list_in.Goals as goal

pub list_word-requires : goal.list_word-requires
list_word-requires c = few_in c.twin_list_in.ensures

pub returns : goal.returns
returns c = twins_in_called c.twin_list_in.ensures c.list_word.ensures
