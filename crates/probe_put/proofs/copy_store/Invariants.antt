-- `probe_put::copy_store` meets its contract. Assumes nothing.
use mathlib.Core.Path.{◌≡◌}
use Prim.Native.Nat.{◌≤◌}
use lib.ListN.{length}
use lib.Seq.{paste}
use Rattle.probe_put.proofs.copy_store.Given as goal

abbrev pub invariant-loop-i : goal.invariant-loop-i
invariant-loop-i l = (l.i ≤ length l.store) × (l.out ≡ paste l.initial.out 0 l.store l.i) × (length l.out ≡ length l.initial.out)
