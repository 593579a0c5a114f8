-- `exr_header::put_data` meets its contract. Assumes nothing.
use Rattle.laws.specs.Bit.{low_bytes}
use Rattle.exr_header.specs.Header.{data_part}
use Rattle.exr_header.proofs.put_data.Goals as goal

pub returns : goal.returns
unfolding data_part low_bytes
returns c = c.put.ensures.written.exit_is
