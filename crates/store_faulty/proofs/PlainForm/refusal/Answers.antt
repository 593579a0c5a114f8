use mathlib.Core.Path.{◌∙◌}
use Rattle.store_faulty.specs.Faulty.{form_of}
use Rattle.store_faulty.proofs.PlainForm.refusal.Goals as goal

pub returns : goal.returns
unfolding form_of
returns c = c.answer_number.ensures ∙ c.record_at.ensures.answers
