use mathlib.Core.Path.{◌∙◌}
use Rattle.raw_bytes.proofs.Bytes.{four_bytes}
use Rattle.raw_bytes.proofs.u32_at.Goals as goal

pub returns : goal.returns
returns c = c.from_le_bytes.ensures ∙ four_bytes _ _
