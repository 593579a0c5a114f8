-- `run_bc7::decode_batch` meets its contract. Assumes nothing.
use borrow.Author.Rules.{rules}
use mathlib.Core.Path.{ap}
use Rattle.bc7_blocks.specs.Run.{told}
use Rattle.run_bc7.proofs.Batches.{decoded}
use Rattle.run_bc7.proofs.decode_batch.Goals as goal

pub overflow_mul-result : goal.overflow_mul-result
overflow_mul-result c =
    let d = decoded _ _ _ _ c.bc7_blocks_pixels.ensures (search rules) in
    let b = ap (λ r. (told r).blocks) c.in-Ok.is in search (rules, d.fits, b)

pub returns-in-Ok : goal.returns-in-Ok
returns-in-Ok c = let d = decoded _ _ _ _ c.bc7_blocks_pixels.ensures (search rules) in rw c.in-Ok.is at d

pub returns-in-Err : goal.returns-in-Err
returns-in-Err c = let d = decoded _ _ _ _ c.bc7_blocks_pixels.ensures (search rules) in rw c.in-Err.is at d
