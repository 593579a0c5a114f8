-- `run_pfm::size_small` meets its contract. Assumes nothing.
use Rattle.laws.proofs.Tests.{and_both}
use Rattle.run_pfm.specs.Export.{size_small}
use Rattle.run_pfm.proofs.size_small.Goals as goal

pub returns : goal.returns
unfolding size_small
returns c = simp and_both
