-- `bc7_weights::eight` meets its contract. Assumes nothing.
use native.Mathlib.Nat.{mod-lt, lt_of_lt_of_le}
use native.Mathlib.Omega.{arith}
use Prim.Native.Nat.{◌*◌}
use lib.Pow.{pow_pos, pow_mono}
use Rattle.bcn_util.proofs.Words.{one_shl}
use Rattle.bc7_weights.proofs.eight.Goals as goal

pub nonzero_rem-result : goal.nonzero_rem-result
nonzero_rem-result c = rw (one_shl (8 * c.args.bits) (omega arith)) (pow_pos (8 * c.args.bits))

pub overflow_cast-result : goal.overflow_cast-result
overflow_cast-result c =
    record {
      fits =
          rw (one_shl (8 * c.args.bits) (omega arith))
          (lt_of_lt_of_le (mod-lt _ (pow_pos (8 * c.args.bits))) (pow_mono {i = 8 * c.args.bits} {j = 32} (omega arith)));
    }

pub returns : goal.returns
returns c = rw (one_shl (8 * c.args.bits) (omega arith))
