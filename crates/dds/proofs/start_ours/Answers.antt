-- `dds::start_ours` meets its contract. Assumes nothing.
use Rattle.dds.specs.Dds.{start_ours}
use Rattle.laws.proofs.Tests.{and_both}
use Rattle.dds.proofs.start_ours.Goals as goal

pub returns : goal.returns
unfolding start_ours
returns c = rw (c.u32_at-magic.ensures, c.u32_at-size.ensures, c.u32_at.ensures) (simp and_both)
