-- `dds::blocks_of` meets its contract. Assumes nothing.
use native.Mathlib.Omega.{arith}
use Rattle.dds.proofs.Headers.{bytes_most}
use Rattle.dds.proofs.Reading.{level_none, level_fits, level_sized, level_bytes, level_some}
use Rattle.dds.proofs.blocks_of.Goals as goal

pub returns-then-read-ne-DONE : goal.returns-then-read-ne-DONE
returns-then-read-ne-DONE c = level_none c.sized_of-read.ensures c.if-read-ne-DONE.true

pub block_bytes-end-requires : goal.block_bytes-end-requires
block_bytes-end-requires c = level_sized c.sized_of-read.ensures c.if-read-ne-DONE.false

pub overflow_add-end : goal.overflow_add-end
overflow_add-end c = omega (arith, c.block_bytes-end.ensures, bytes_most _ _ (level_sized c.sized_of-read.ensures c.if-read-ne-DONE.false))

pub slice_bounds-result-end-2 : goal.slice_bounds-result-end-2
slice_bounds-result-end-2 c =
    let h = c.sized_of-read.ensures in
    let z = c.if-read-ne-DONE.false in
    omega (arith, level_fits h z, level_bytes h z c.block_bytes-end.ensures)

pub returns : goal.returns
returns c = level_some c.sized_of-read.ensures c.if-read-ne-DONE.false c.block_bytes-end.ensures
