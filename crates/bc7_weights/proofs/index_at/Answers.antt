-- `bc7_weights::index_at` meets its contract. Assumes nothing.
use mathlib.Core.Path.{refl}
use native.Mathlib.Nat.{mod-lt, lt_of_lt_of_le}
use native.Mathlib.Omega.{arith}
use Prim.Native.Nat.{◌*◌, ◌≤◌}
use lib.Pow.{pow_pos, pow_mono}
use Rattle.bcn_util.proofs.Words.{one_shl_32}
use Rattle.bc7_weights.proofs.Weighing.{start_le}
use Rattle.bc7_weights.proofs.index_at.Goals as goal

pub overflow_mul-result : goal.overflow_mul-result
overflow_mul-result c =
    let start : c.args.bits * c.args.k ≤ 28 = start_le _ _ c.requires.0 c.requires.1 in
    omega (arith, start)

pub overflow_cast-result : goal.overflow_cast-result
overflow_cast-result c =
    let start : c.args.bits * c.args.k ≤ 28 = start_le _ _ c.requires.0 c.requires.1 in
    omega (arith, start)

pub overflow_shr-result : goal.overflow_shr-result
overflow_shr-result c =
    let start : c.args.bits * c.args.k ≤ 28 = start_le _ _ c.requires.0 c.requires.1 in
    omega (arith, start)

pub nonzero_rem-result : goal.nonzero_rem-result
nonzero_rem-result c = rw (one_shl_32 c.args.bits (omega arith)) (pow_pos c.args.bits)

pub overflow_cast-result-3 : goal.overflow_cast-result-3
overflow_cast-result-3 c =
    record {
      fits =
          rw (one_shl_32 c.args.bits (omega arith))
          (lt_of_lt_of_le (mod-lt _ (pow_pos c.args.bits)) (pow_mono {i = c.args.bits} {j = 16} (omega arith)));
    }

pub returns : goal.returns
returns c = rw (one_shl_32 c.args.bits (omega arith)) (refl, mod-lt _ (pow_pos c.args.bits))
