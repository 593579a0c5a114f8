-- `exr::write_refusal` meets its contract. Assumes nothing.
use mathlib.Core.Path.{◌∙◌}
use Rattle.pfm.proofs.Calls.{refusal_same}
use Rattle.exr.proofs.Calls.{length_pick}
use Rattle.exr.proofs.write_refusal.Goals as goal

pub returns : goal.returns
returns c = c.refusal_for.ensures ∙ refusal_same _ _ _ _ _ _ _ (c.exr_length-whole.ensures ∙ length_pick _ _)
