use Prim.Native.Nat.{◌≤◌, ◌-◌}
use mathlib.Core.Path.{◌≡◌}
use Rattle.laws.specs.First.{first_below}
use Rattle.store_records.specs.Store.{record_refusal}
use Rattle.probe_places.specs.Faults.{is_faulty}
use Rattle.probe_moves.proofs.first_old_fault.Given as goal

abbrev pub invariant-loop-n : goal.invariant-loop-n
invariant-loop-n l = (l.n ≤ l.count) × (first_below (is_faulty (record_refusal l.old)) l.n ≡ l.n)
