use mathlib.Core.Path.{refl}
use Rattle.text_audit.proofs.Twins as twins
use Rattle.text_audit.proofs.examine.Goals as goal

pub returns : goal.returns
returns c = twins.found _ _ c.first_of-first.ensures c.beside-stays.ensures refl c.is_covered.ensures c.is_by_demand_3.ensures
