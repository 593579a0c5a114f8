use mathlib.Core.Path.{◌∙◌}
use Rattle.probe_places.proofs.Readings.{pair_read}
use Rattle.probe_places.proofs.pair_at.Goals as goal

pub returns : goal.returns
returns c = c.u16_at.ensures ∙ pair_read _ _ _
