use Rattle.knotpasture.proofs.CleanWords.{clean_called, clean_few}
use Rattle.knotpasture.proofs.clean.knot_clean_store.Goals as goal

pub clean_word-requires : goal.clean_word-requires
clean_word-requires c = clean_few c.clean_store.ensures

pub returns : goal.returns
returns c = clean_called c.clean_store.ensures c.clean_word.ensures
