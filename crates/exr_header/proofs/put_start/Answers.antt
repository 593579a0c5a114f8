-- `exr_header::put_start` meets its contract. Assumes nothing.
use Rattle.laws.specs.Bit.{low_bytes}
use Rattle.exr_header.specs.Header.{start_part}
use Rattle.exr_header.proofs.put_start.Goals as goal

pub returns : goal.returns
unfolding start_part low_bytes
returns c = c.put.ensures.written.exit_is
