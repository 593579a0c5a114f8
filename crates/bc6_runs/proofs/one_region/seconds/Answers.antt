-- `bc6_runs::one_region::seconds` meets its contract. Assumes nothing.
use mathlib.Core.Path.{◌∙◌}
use Rattle.bc6_runs.proofs.Threes.{second_tens}
use Rattle.bc6_runs.proofs.one_region.seconds.Goals as goal

pub returns : goal.returns
returns c = c.tens.ensures ∙ second_tens c.args.lo c.args.hi
