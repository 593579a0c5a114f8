-- `dds::block_bytes` meets its contract. Assumes nothing.
use Prim.Native.Nat.{◌*◌, ◌≤◌}
use native.Mathlib.Omega.{arith}
use Rattle.dds.specs.Dds.{block_bytes}
use Rattle.dds.proofs.Headers.{bytes_most}
use Rattle.dds.proofs.block_bytes.Goals as goal

pub returns : goal.returns
unfolding block_bytes
returns c = rw (c.blocks_along.ensures, c.blocks_along-2.ensures)

pub overflow_mul-result : goal.overflow_mul-result
overflow_mul-result c =
    let most : c.blocks_along.result * c.blocks_along-2.result * 16 ≤ 16777216 = rw (returns c) (bytes_most _ _ c.requires) in
    let m = most in omega arith

pub overflow_mul-result-2 : goal.overflow_mul-result-2
overflow_mul-result-2 c =
    let most : c.blocks_along.result * c.blocks_along-2.result * 16 ≤ 16777216 = rw (returns c) (bytes_most _ _ c.requires) in
    let m = most in omega arith
