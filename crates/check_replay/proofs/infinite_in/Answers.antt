use Rattle.check_replay.specs.Entries.{infinite_in}
use Rattle.check_replay.proofs.infinite_in.Goals as goal

pub returns : goal.returns
unfolding infinite_in
returns c = c.u16_at.ensures
