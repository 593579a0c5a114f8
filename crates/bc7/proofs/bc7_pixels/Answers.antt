-- `bc7::bc7_pixels` meets its contract. Assumes nothing.
use mathlib.Core.Path.{◌≡◌, refl, ◌∙◌}
use Rattle.bcn_util.specs.Stream.{number}
use Rattle.bc7_spec.specs.Fields.{mode_in}
use Rattle.bc7.proofs.Calls.{painted_block, painted_output, painted_done}
use Rattle.bc7.proofs.Lowest.{mode_low}
use Rattle.bc7.proofs.bc7_pixels.Goals as goal

pub returns-then-block-ne-SIZE : goal.returns-then-block-ne-SIZE
returns-then-block-ne-SIZE c = painted_block _ _ _ c.if-block-ne-SIZE.true refl

pub returns-then-out-lt-BYTES : goal.returns-then-out-lt-BYTES
returns-then-out-lt-BYTES c = painted_output _ _ _ c.if-block-ne-SIZE.false c.if-out-lt-BYTES.true refl

pub show-requires : goal.show-requires
show-requires c =
    let mode-is : c.mode_of-mode.result ≡ mode_in (number c.new-stream.result) = c.mode_of-mode.ensures ∙ mode_low c.new-stream.result.lo c.new-stream.result.hi in
    (mode-is, c.if-out-lt-BYTES.false)

pub returns : goal.returns
returns c =
    let mode-is : c.mode_of-mode.result ≡ mode_in (number c.new-stream.result) = c.mode_of-mode.ensures ∙ mode_low c.new-stream.result.lo c.new-stream.result.hi in
    painted_done _ c.args.out.now (number c.new-stream.result) c.mode_of-mode.result _ c.if-block-ne-SIZE.false c.if-out-lt-BYTES.false c.new-stream.ensures mode-is c.show.ensures
