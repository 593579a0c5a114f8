-- `bc6_runs::one_region::extra_bits` meets its contract. Assumes nothing.
use mathlib.Core.Path.{◌≡◌}
use Prim.Native.Nat.{◌-◌, ◌≤◌}
use Rattle.bc6_runs.specs.Threes.{three_of, extra_bits}
use Rattle.bc6_runs.proofs.one_region.extra_bits.Given as goal

abbrev pub invariant-loop-k : goal.invariant-loop-k
invariant-loop-k l = (l.k ≤ l.extra) × (l.above ≡ three_of (extra_bits l.f l.k))

abbrev pub decreases-loop-k : goal.decreases-loop-k
decreases-loop-k l = l.extra - l.k
