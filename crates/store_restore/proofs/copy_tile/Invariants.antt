use mathlib.Core.Path.{◌≡◌}
use Prim.Native.Nat.{◌≤◌}
use lib.ListN.{length, drop}
use lib.Seq.{paste}
use Rattle.store_restore.proofs.copy_tile.Given as goal

abbrev pub invariant-loop-k : goal.invariant-loop-k
invariant-loop-k l = (l.k ≤ 4) × (l.out ≡ paste l.initial.out l.to (drop l.from l.receipt) l.k) × (length l.out ≡ length l.initial.out)
