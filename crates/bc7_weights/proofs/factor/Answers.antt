-- `bc7_weights::factor` meets its contract. Assumes nothing.
use mathlib.Core.Path.{◌≡◌, sym, ap}
use native.Mathlib.Omega.{arith}
use Rattle.bc7_weights.specs.Weighed.{factor_of}
use Rattle.bc7_weights.proofs.factor.Goals as goal

pub returns : goal.returns
returns c = let e : c.args.bits ≡ 4 = omega arith in ap factor_of (sym e)
