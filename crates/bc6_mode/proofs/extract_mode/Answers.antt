-- `bc6_mode::extract_mode` meets its contract. Assumes nothing.
use Rattle.bc6_mode.proofs.Mode.{mode_read}
use Rattle.bc6_mode.proofs.extract_mode.Goals as goal

pub returns : goal.returns
returns c = mode_read c.args.stream.lo c.args.stream.hi _ c.modes_of-modes.ensures
