use mathlib.Core.Path.{◌≡◌}
use Prim.Native.Nat.{◌+◌, ◌*◌, ◌≤◌, ◌-◌}
use lib.ListN.{length}
use Rattle.text.specs.Text.{Written}
use Rattle.text_places_audit.specs.Audit.{copy_lines}
use Rattle.text_places_audit.proofs.Lines.{Tallied}
use Rattle.text_places_audit.proofs.put_copies.Given as goal

abbrev pub invariant-loop-n : goal.invariant-loop-n
invariant-loop-n l = (l.n ≤ l.count) × (length l.text ≡ length l.initial.text) × (l.end ≤ l.at + l.n * 256) × Tallied l.store l.n l.copies × Written l.initial.text l.at (copy_lines l.store l.n) l.end l.text
