-- `bc7_ends::ends_in` meets its contract: four runs, one after the other. Assumes nothing.
use Rattle.bc7_ends.proofs.Widening.{same_runs}
use Rattle.bc7_ends.proofs.ends_in.Goals as goal

pub returns : goal.returns
returns c = same_runs c.run-red.ensures.is c.run-green.ensures.is c.run-blue.ensures.is c.run-alpha.ensures.is c.ends_of.ensures
