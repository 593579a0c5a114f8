-- `run_show::fields_in` meets its contract. Assumes nothing.
use borrow.Author.Rules.{rules}
use Rattle.run_show.proofs.Bytes.{no_record, a_record}
use Rattle.run_show.proofs.fields_in.Goals as goal

pub returns-then-input-ne-INPUT_SIZE : goal.returns-then-input-ne-INPUT_SIZE
returns-then-input-ne-INPUT_SIZE c = no_record _ c.if-input-ne-INPUT_SIZE.true c.none.ensures

pub returns : goal.returns
returns c = a_record _ (search rules) c.numbers_in-numbers.ensures c.fields_from.ensures
