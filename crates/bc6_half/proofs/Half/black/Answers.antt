-- `bc6_half::Half::black` meets its contract: the pattern of 0 is 0. Assumes nothing.
use mathlib.Core.Path.{ap}
use lib.ListN.{replicate}
use Rattle.bc6h_spec.specs.Half.{finished, finish_u, is_lowest}
use Rattle.bc6_half.specs.Halves.{half_of}
use Rattle.bc6_half.proofs.Half.black.Goals as goal

pub returns : goal.returns
unfolding half_of finished finish_u is_lowest
returns c = ap (replicate 3) c.finish.ensures
