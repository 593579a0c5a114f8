-- `bc6_numbers::byte_from` meets its contract. Assumes nothing.
use Rattle.bc6_numbers.proofs.Record.{small_number, large_number}
use Rattle.bc6_numbers.proofs.byte_from.Goals as goal

pub returns-then-number-lt255 : goal.returns-then-number-lt255
returns-then-number-lt255 c = small_number _ c.if-number-lt255.true

pub returns-else-number-lt255 : goal.returns-else-number-lt255
returns-else-number-lt255 c = large_number _ c.if-number-lt255.false
