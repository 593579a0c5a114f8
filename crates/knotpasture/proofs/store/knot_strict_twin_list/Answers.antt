use Rattle.knotpasture.proofs.StoreWords.{strict_called, strict_few}
use Rattle.knotpasture.proofs.store.knot_strict_twin_list.Goals as goal

pub list_word-requires : goal.list_word-requires
list_word-requires c = strict_few c.strict_twin_list.ensures

pub returns : goal.returns
returns c = strict_called c.strict_twin_list.ensures c.list_word.ensures
