-- `bc6::block_pixels` meets its contract: one law for each return. Assumes nothing.
use mathlib.Core.Path.{refl, ◌∙◌, ap}
use native.Mathlib.Omega.{arith}
use Prim.Native.Nat.{◌≤◌}
use Rattle.bc6h_spec.specs.Fields.{mode_in, mode_of}
use Rattle.bc6h_spec.proofs.Modes.{mode_range}
use Rattle.bc6_paint.proofs.Link.{painted_as}
use Rattle.bc6.proofs.Whole.{block_shown}
use Rattle.bc6.proofs.Calls.{painted_format, painted_block, painted_output, painted_done}
use Rattle.bc6.proofs.block_pixels.Goals as goal

pub returns-then-format-gt1 : goal.returns-then-format-gt1
returns-then-format-gt1 c = painted_format _ _ _ _ c.if-format-gt1.true refl

pub returns-then-block-ne-SIZE : goal.returns-then-block-ne-SIZE
returns-then-block-ne-SIZE c = painted_block _ _ _ _ (omega arith) c.if-block-ne-SIZE.true refl

pub returns-then-out-lt-VALUES : goal.returns-then-out-lt-VALUES
returns-then-out-lt-VALUES c = painted_output _ _ _ _ (omega arith) (omega arith) (omega arith) refl

pub overflow_cast-mode : goal.overflow_cast-mode
overflow_cast-mode c =
    let few : c.extract_mode-mode.result ≤ 14 = rw c.extract_mode-mode.ensures (mode_range _) in
    let h = few in record { fits = omega arith }

pub returns : goal.returns
unfolding mode_of
returns c =
    painted_done _ _ _ _ _ _ (omega arith) (omega arith) (omega arith) (c.extract_mode-mode.ensures ∙ ap mode_in c.new-stream.ensures)
    (painted_as c.show-infinite.ensures (block_shown _ _ _ c.new-stream.ensures))
