-- `bc6_numbers::fields_from` meets its contract. Assumes nothing.
use Rattle.bc6_numbers.proofs.Record.{no_record, a_record}
use Rattle.bc6_numbers.proofs.fields_from.Goals as goal

pub returns-then-numbers-ne-NUMBERS : goal.returns-then-numbers-ne-NUMBERS
returns-then-numbers-ne-NUMBERS c = no_record _ c.if-numbers-ne-NUMBERS.true c.none.ensures

pub returns : goal.returns
returns c =
    a_record _ c.if-numbers-ne-NUMBERS.false c.byte_from.ensures c.byte_from-2.ensures c.endpoints_from.ensures
    c.byte_from-3.ensures c.byte_from-4.ensures c.indices_from.ensures
