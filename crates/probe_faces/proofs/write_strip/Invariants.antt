use Prim.Native.Nat.{◌≤◌, ◌+◌, ◌-◌, ◌*◌}
use mathlib.Core.Path.{◌≡◌}
use mathlib.Core.List.{◌++◌}
use lib.ListN.{length, drop}
use Rattle.laws.specs.Made.{made, join}
use Rattle.probe_faces.specs.Strip.{strip_row}
use Rattle.probe_faces.proofs.write_strip.Given as goal

abbrev pub invariant-loop-k : goal.invariant-loop-k
invariant-loop-k l = (l.k ≤ 4) × (l.out ≡ join (made (strip_row l.strip l.edge) l.k) ++ drop (12 * l.edge * l.k) l.initial.out) × (length l.out ≡ length l.initial.out)
