use Prim.Native.Nat.{◌≤◌, ◌-◌}
use mathlib.Core.Path.{◌≡◌}
use mathlib.Core.List.{◌++◌}
use lib.ListN.{length, drop}
use Rattle.laws.specs.Made.{made}
use Rattle.probe_moves.specs.Moves.{old_at}
use Rattle.probe_moves.proofs.unplace_records.Given as goal

abbrev pub invariant-loop-j : goal.invariant-loop-j
invariant-loop-j l = (l.j ≤ l.size) × (l.out ≡ made (old_at l.store) l.j ++ drop l.j l.initial.out) × (length l.out ≡ length l.initial.out)
