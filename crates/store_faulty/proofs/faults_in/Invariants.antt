use Rattle.store_faulty.specs.Faulty.{form_of, Counted}
use Prim.Native.Nat.{◌≤◌}
use Rattle.store_faulty.proofs.faults_in.Given as goal

abbrev pub invariant-loop-n : goal.invariant-loop-n
invariant-loop-n g l = (l.n ≤ l.count) × Counted (form_of g.F.Form.byte) l.store l.n l.refused l.damaged
