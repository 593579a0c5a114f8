use mathlib.Core.Path.{◌∙◌}
use Rattle.raw_bytes.proofs.Bytes.{eight_bytes}
use Rattle.raw_bytes.proofs.u64_at.Goals as goal

pub returns : goal.returns
returns c = c.from_le_bytes.ensures ∙ eight_bytes _ _
