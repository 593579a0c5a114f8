-- `bc7_blocks::bc7_blocks_pixels` meets its contract: one law for each return. Assumes nothing.
use mathlib.Core.Path.{refl}
use native.Mathlib.Omega.{arith}
use Rattle.bc7_blocks.proofs.Calls.{painted_blocks, painted_output, painted_done}
use Rattle.bc7_blocks.proofs.bc7_blocks_pixels.Goals as goal

pub returns-then-blocks-ne0 : goal.returns-then-blocks-ne0
returns-then-blocks-ne0 c = painted_blocks _ _ _ c.if-blocks-ne0.true refl

pub returns-then-out-count : goal.returns-then-out-count
returns-then-out-count c = painted_output _ _ _ (omega arith) (omega arith) refl

pub paint_run-requires : goal.paint_run-requires
paint_run-requires c = (omega arith, omega arith)

pub returns : goal.returns
returns c = painted_done _ _ _ (omega arith) (omega arith) c.paint_run.ensures
