use Rattle.check_replay.specs.Entries.{entry_value}
use Rattle.check_replay.proofs.value_at.Goals as goal

pub returns : goal.returns
unfolding entry_value
returns c = c.u16_at.ensures
