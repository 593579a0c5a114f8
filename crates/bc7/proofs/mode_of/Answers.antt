-- `bc7::mode_of` meets its contract. Assumes nothing.
use Prim.Native.Nat.{◌+◌, ◌%◌}
use native.Mathlib.Omega.{arith}
use lib.Count.{trailing_le}
use Rattle.bc7.proofs.Lowest.{lowest}
use Rattle.bc7.proofs.mode_of.Goals as goal

pub overflow_cast-result : goal.overflow_cast-result
overflow_cast-result c = omega (arith, trailing_le 64 (c.args.low % 256 + 256))

pub returns : goal.returns
returns c = lowest _
