use Prim.Native.Nat.{◌≤◌, ◌-◌}
use mathlib.Core.Path.{◌≡◌}
use Rattle.laws.specs.First.{first_below}
use Rattle.probe_places.specs.Faults.{is_faulty}
use Rattle.probe_moves.specs.Moves.{back_refusal}
use Rattle.probe_moves.proofs.first_back_fault.Given as goal

abbrev pub invariant-loop-n : goal.invariant-loop-n
invariant-loop-n l = (l.n ≤ l.count) × (first_below (is_faulty (back_refusal l.store)) l.n ≡ l.n)
