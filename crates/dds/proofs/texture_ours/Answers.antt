-- `dds::texture_ours` meets its contract. Assumes nothing.
use Rattle.dds.specs.Dds.{texture_ours}
use Rattle.laws.proofs.Tests.{and_both, or_either}
use Rattle.dds.proofs.texture_ours.Goals as goal

pub returns : goal.returns
unfolding texture_ours
returns c = rw (c.u32_at-dxgi.ensures, c.u32_at-dimension.ensures, c.u32_at.ensures, c.u32_at-single.ensures) (simp (and_both, or_either))
