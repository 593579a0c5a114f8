-- `dds::dds_blocks` meets its contract. Assumes nothing.
use Rattle.dds.proofs.Reading.{blocks_one}
use Rattle.dds.proofs.dds_blocks.Goals as goal

pub returns : goal.returns
returns c = blocks_one c.blocks_of.ensures
