-- `dds::pixels_ours` meets its contract. Assumes nothing.
use Rattle.dds.specs.Dds.{pixels_ours}
use Rattle.laws.proofs.Tests.{and_both}
use Rattle.dds.proofs.pixels_ours.Goals as goal

pub returns : goal.returns
unfolding pixels_ours
returns c = rw (c.u32_at-size.ensures, c.u32_at.ensures, c.u32_at-code.ensures) (simp and_both)
