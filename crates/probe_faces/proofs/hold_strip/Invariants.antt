use Prim.Native.Nat.{◌≤◌, ◌-◌, ◌*◌}
use mathlib.Core.Path.{◌≡◌}
use mathlib.Core.List.{◌++◌}
use lib.ListN.{length, drop}
use Rattle.laws.specs.Made.{made, join}
use Rattle.probe_faces.specs.Strip.{strip_block}
use Rattle.probe_faces.proofs.hold_strip.Given as goal

abbrev pub invariant-loop-column : goal.invariant-loop-column
invariant-loop-column l = (l.column ≤ l.edge) × (l.strip ≡ join (made (strip_block l.store l.face l.row) l.column) ++ drop (48 * l.column) l.initial.strip) × (length l.strip ≡ length l.initial.strip)
