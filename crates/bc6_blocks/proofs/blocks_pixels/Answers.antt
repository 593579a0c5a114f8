-- `bc6_blocks::blocks_pixels` meets its contract: one law for each return. Assumes nothing.
use mathlib.Core.Path.{refl}
use native.Mathlib.Omega.{arith}
use Rattle.bc6_blocks.proofs.Calls.{painted_format, painted_blocks, painted_output, painted_done}
use Rattle.bc6_blocks.proofs.blocks_pixels.Goals as goal

pub returns-then-format-gt1 : goal.returns-then-format-gt1
returns-then-format-gt1 c = painted_format _ _ _ _ c.if-format-gt1.true refl

pub returns-then-blocks-ne0 : goal.returns-then-blocks-ne0
returns-then-blocks-ne0 c = painted_blocks _ _ _ _ (omega arith) c.if-blocks-ne0.true refl

pub returns-then-out-count : goal.returns-then-out-count
returns-then-out-count c = painted_output _ _ _ _ (omega arith) (omega arith) (omega arith) refl

pub returns : goal.returns
returns c = painted_done _ _ _ _ _ (omega arith) (omega arith) (omega arith) c.paint_run-infinite.ensures
