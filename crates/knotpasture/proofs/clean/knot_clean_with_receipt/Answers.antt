use Rattle.knotpasture.proofs.CleanWords.{receipt_called, receipt_few}
use Rattle.knotpasture.proofs.clean.knot_clean_with_receipt.Goals as goal

pub clean_word-requires : goal.clean_word-requires
clean_word-requires c = receipt_few c.clean_with_receipt.ensures

pub returns : goal.returns
returns c = receipt_called c.clean_with_receipt.ensures c.clean_word.ensures
