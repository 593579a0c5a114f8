use mathlib.Core.Path.{◌∙◌}
use Rattle.raw_bytes.proofs.Bytes.{two_bytes}
use Rattle.raw_bytes.proofs.u16_at.Goals as goal

pub returns : goal.returns
returns c = (cc) ∙ two_bytes _ _
