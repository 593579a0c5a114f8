use mathlib.Core.Path.{refl}
use Rattle.probe.proofs.Holding.{held_none}
use Rattle.probe.proofs.probe_check.Goals as goal

pub check_places-requires : goal.check_places-requires
check_places-requires c = held_none _ _ refl

pub returns : goal.returns
returns c = c.check_places.ensures.answers
