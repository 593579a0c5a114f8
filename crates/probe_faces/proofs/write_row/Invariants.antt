-- `probe_faces::write_row` meets its contract: a turn copies the row of the next block. Assumes nothing.
use mathlib.Core.Path.{◌≡◌}
use mathlib.Core.List.{◌++◌}
use Prim.Native.Nat.{◌≤◌, ◌+◌, ◌-◌, ◌*◌}
use lib.ListN.{length, drop}
use Rattle.laws.specs.Made.{made, join}
use Rattle.probe_faces.specs.Strip.{strip_piece}
use Rattle.probe_faces.proofs.write_row.Given as goal

abbrev pub invariant-loop-column : goal.invariant-loop-column
invariant-loop-column l = (l.column ≤ l.edge) × (l.out ≡ join (made (strip_piece l.strip l.k) l.column) ++ drop (12 * l.column) l.initial.out) × (length l.out ≡ length l.initial.out)
