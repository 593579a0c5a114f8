-- `dds::bc7_dds_blocks` meets its contract. Assumes nothing.
use Rattle.dds.proofs.Reading.{blocks_one}
use Rattle.dds.proofs.bc7_dds_blocks.Goals as goal

pub returns : goal.returns
returns c = blocks_one c.blocks_of.ensures
