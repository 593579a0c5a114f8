-- `run_write::fields_in` meets its contract. Assumes nothing.
use borrow.Author.Rules.{rules}
use Rattle.run_write.proofs.Bytes.{no_record, a_record}
use Rattle.run_write.proofs.fields_in.Goals as goal

pub returns-then-piece-ne-RECORD_SIZE : goal.returns-then-piece-ne-RECORD_SIZE
returns-then-piece-ne-RECORD_SIZE c = no_record _ c.if-piece-ne-RECORD_SIZE.true c.none.ensures

pub returns : goal.returns
returns c = a_record _ (search rules) c.numbers_in-numbers.ensures c.fields_from.ensures
