use Prim.Native.Nat.{◌-◌}
use Rattle.store_clean.proofs.Cleaning.{SoFar}
use Rattle.store_clean.proofs.clean_store.Given as goal

abbrev pub invariant-loop-n : goal.invariant-loop-n
invariant-loop-n l = SoFar l.store l.initial.out l.out l.n l.kept

abbrev pub decreases-loop-n : goal.decreases-loop-n
decreases-loop-n l = l.count - l.n
