-- `exr_header::put_display` meets its contract. Assumes nothing.
use Rattle.laws.specs.Bit.{low_bytes}
use Rattle.exr_header.specs.Header.{display_part}
use Rattle.exr_header.proofs.put_display.Goals as goal

pub returns : goal.returns
unfolding display_part low_bytes
returns c = c.put.ensures.written.exit_is
