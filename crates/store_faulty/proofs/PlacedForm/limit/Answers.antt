use borrow.Author.Rules.{rules}
use Rattle.store_faulty.specs.Faulty.{form_of}
use Rattle.store_faulty.proofs.PlacedForm.limit.Goals as goal

pub returns : goal.returns
unfolding form_of
returns c = search rules
