use Prim.Native.Nat.{◌≤◌, ◌-◌}
use mathlib.Core.Path.{◌≡◌}
use Rattle.laws.specs.First.{first_below}
use Rattle.probe_places.specs.Faults.{is_faulty}
use Rattle.probe.specs.Probe.{probe_refusal}
use Rattle.probe.specs.Held.{Held}
use Rattle.probe.proofs.hold_records.Given as goal

abbrev pub invariant-loop-n : goal.invariant-loop-n
invariant-loop-n l = (l.n ≤ l.count) × (first_below (is_faulty (probe_refusal l.store l.edge)) l.n ≡ l.n) × Held l.store l.n l.holders
