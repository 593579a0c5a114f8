use mathlib.Core.Path.{◌≡◌}
use Prim.Native.Nat.{◌+◌, ◌*◌, ◌≤◌, ◌-◌}
use lib.ListN.{length}
use Rattle.text.specs.Text.{Written}
use Rattle.text_audit.specs.Audit.{audit_lines, Tallied}
use Rattle.text_audit.proofs.put_twins.Given as goal

abbrev pub invariant-loop-n : goal.invariant-loop-n
invariant-loop-n l = (l.n ≤ l.count) × (length l.text ≡ length l.initial.text) × (l.end ≤ l.at + l.n * 128) × Tallied l.store l.n l.copies l.alike l.covered l.before × Written l.initial.text l.at (audit_lines l.store l.n) l.end l.text

abbrev pub decreases-loop-n : goal.decreases-loop-n
decreases-loop-n l = l.count - l.n
