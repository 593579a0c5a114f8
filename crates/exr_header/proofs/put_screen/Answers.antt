-- `exr_header::put_screen` meets its contract. Assumes nothing.
use Rattle.laws.specs.Bit.{low_bytes}
use Rattle.exr_header.specs.Header.{screen_part}
use Rattle.exr_header.proofs.put_screen.Goals as goal

pub returns : goal.returns
unfolding screen_part low_bytes
returns c = c.put.ensures.written.exit_is
