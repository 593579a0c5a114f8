use Prim.Native.Nat.{◌≤◌, ◌-◌}
use Rattle.text_places.proofs.Counts.{Sorted}
use Rattle.text_places.proofs.count_places.Given as goal

abbrev pub invariant-loop-n : goal.invariant-loop-n
invariant-loop-n l = (l.n ≤ l.count) × Sorted l.store l.n l.placed l.unplaced
