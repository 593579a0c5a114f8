use mathlib.Core.Path.{◌≡◌}
use Prim.Native.Nat.{◌≤◌, ◌-◌}
use lib.ListN.{length}
use Rattle.store_spec.proofs.Keeping.{Printed}
use Rattle.store_scratch.proofs.keep_prints.Given as goal

abbrev pub invariant-loop-n : goal.invariant-loop-n
invariant-loop-n l = (l.n ≤ l.count) × Printed l.store l.initial.scratch l.n l.scratch × (length l.scratch ≡ length l.initial.scratch)

abbrev pub decreases-loop-n : goal.decreases-loop-n
decreases-loop-n l = l.count - l.n
