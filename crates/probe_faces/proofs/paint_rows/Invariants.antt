use Prim.Native.Nat.{◌≤◌, ◌+◌, ◌-◌, ◌*◌}
use mathlib.Core.Path.{◌≡◌}
use mathlib.Core.List.{◌++◌}
use lib.ListN.{length, drop}
use Rattle.laws.specs.Made.{made, join}
use Rattle.probe_faces.specs.Strip.{four_rows}
use Rattle.probe_faces.proofs.paint_rows.Given as goal

abbrev pub invariant-loop-row : goal.invariant-loop-row
invariant-loop-row l = (l.row ≤ l.edge) × (l.out ≡ join (made (four_rows l.store l.edge l.face) l.row) ++ drop (48 * l.edge * l.row) l.initial.out) × (length l.out ≡ length l.initial.out) × (length l.strip ≡ 768)
