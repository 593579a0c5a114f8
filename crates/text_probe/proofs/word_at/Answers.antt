use mathlib.Core.Path.{◌∙◌}
use Rattle.text_probe.specs.Output.{word_at}
use Rattle.text_probe.proofs.word_at.Goals as goal

pub returns : goal.returns
unfolding word_at
returns c = c.u32_to_usize.ensures ∙ c.u32_at.ensures
