-- `dds::size_ours` meets its contract. Assumes nothing.
use Rattle.laws.proofs.Tests.{and_both}
use Rattle.dds.specs.Dds.{size_ours}
use Rattle.dds.proofs.size_ours.Goals as goal

pub returns : goal.returns
unfolding size_ours
returns c = simp and_both
