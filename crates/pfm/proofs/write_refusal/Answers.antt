-- `pfm::write_refusal` meets its contract. Assumes nothing.
use mathlib.Core.Path.{◌∙◌}
use Rattle.pfm.specs.File.{length_of}
use Rattle.pfm.proofs.Calls.{refusal_same}
use Rattle.pfm.proofs.write_refusal.Goals as goal

pub returns : goal.returns
unfolding length_of
returns c = c.refusal_for.ensures ∙ refusal_same _ _ _ _ _ _ _ c.pfm_length-whole.ensures
