use mathlib.Core.Path.{◌≡◌}
use Prim.Native.Nat.{◌≤◌, ◌-◌}
use lib.ListN.{length}
use Rattle.store_spec.proofs.Keeping.{Fore}
use Rattle.store_twins.proofs.keep_pictures.Given as goal

abbrev pub invariant-loop-n : goal.invariant-loop-n
invariant-loop-n l = (l.n ≤ l.count) × Fore l.store l.initial.pictures l.n l.pictures × (length l.pictures ≡ length l.initial.pictures)

abbrev pub decreases-loop-n : goal.decreases-loop-n
decreases-loop-n l = l.count - l.n
