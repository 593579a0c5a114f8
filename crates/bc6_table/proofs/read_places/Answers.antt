-- `bc6_table::read_places` meets its contract: one code a turn. Assumes nothing.
use native.Mathlib.Omega.{arith}
use Rattle.bc6_table.proofs.Walk.{walked_place, walked_room, walked_next, walked_done}
use Rattle.bc6_table.proofs.read_places.Goals as goal

pub bounds-values-place : goal.bounds-values-place
bounds-values-place c = walked_place c.loop-code.invariant c.row_of-row.ensures c.loop-code-test.true c.from-place.ensures

pub overflow_add-values : goal.overflow_add-values
overflow_add-values c =
    record { fits = walked_room c.loop-code.invariant c.row_of-row.ensures c.loop-code-test.true c.from-place.ensures c.consume_bits-read.ensures.next c.bit_at.ensures }

pub bounds-values-place-in-loop-code : goal.bounds-values-place-in-loop-code
bounds-values-place-in-loop-code c = walked_place c.loop-code.invariant c.row_of-row.ensures c.loop-code-test.true c.from-place.ensures

pub loop-code-preserved : goal.loop-code-preserved
loop-code-preserved c =
    walked_next c.loop-code.invariant c.row_of-row.ensures c.loop-code-test.true c.from-place.ensures c.consume_bits-read.ensures.next
    c.bit_at.ensures c.consume_bits-read.ensures.left

pub returns : goal.returns
returns c = walked_done c.loop-code.invariant c.row_of-row.ensures (omega arith)
