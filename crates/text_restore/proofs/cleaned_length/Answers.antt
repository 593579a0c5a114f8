use Rattle.text_restore.specs.Restoring.{cleaned_length}
use Rattle.text_restore.proofs.cleaned_length.Goals as goal

pub returns : goal.returns
unfolding cleaned_length
returns c = c.u32_at.ensures
