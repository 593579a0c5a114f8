use Rattle.knotpasture.proofs.FileWords.{start_called}
use Rattle.knotpasture.proofs.files.knot_bc7_dds_first_blocks.Goals as goal

pub returns : goal.returns
returns c = start_called c.bc7_dds_first_level.ensures c.start_of.ensures
