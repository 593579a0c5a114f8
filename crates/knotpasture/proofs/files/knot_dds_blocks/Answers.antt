use Rattle.knotpasture.proofs.FileWords.{blocks_called}
use Rattle.knotpasture.proofs.files.knot_dds_blocks.Goals as goal

pub returns : goal.returns
returns c = blocks_called c.dds_read.ensures c.start_of.ensures
