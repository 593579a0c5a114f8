-- `dds::chain_bytes` meets its contract. Assumes nothing.
use mathlib.Core.Path.{◌≡◌}
use Prim.Native.Nat.{◌-◌, ◌≤◌}
use Rattle.dds.specs.Dds.{chain_bytes}
use Rattle.dds.proofs.chain_bytes.Given as goal

abbrev pub invariant-loop-level : goal.invariant-loop-level
invariant-loop-level l = (l.level ≤ l.levels) × (l.bytes ≡ chain_bytes l.level l.width l.height)

abbrev pub decreases-loop-level : goal.decreases-loop-level
decreases-loop-level l = l.levels - l.level
