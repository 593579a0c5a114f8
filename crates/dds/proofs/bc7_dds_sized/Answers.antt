-- `dds::bc7_dds_sized` meets its contract. Assumes nothing.
use Rattle.dds.proofs.Reading.{sized_one}
use Rattle.dds.proofs.bc7_dds_sized.Goals as goal

pub returns : goal.returns
returns c = sized_one c.sized_of.ensures
