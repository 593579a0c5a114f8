use Rattle.store_faulty.specs.Faulty.{form_of}
use Rattle.store_faulty.proofs.PlacedForm.refusal.Goals as goal

pub returns : goal.returns
unfolding form_of
returns c = (cc)
