-- `bc6_runs::one_region::turned` meets its contract. Assumes nothing.
use Rattle.bc6_runs.proofs.Threes.{turned_is}
use Rattle.bc6_runs.proofs.one_region.turned.Goals as goal

pub returns : goal.returns
returns c = turned_is c.args.f c.args.at c.requires.0 c.requires.1
