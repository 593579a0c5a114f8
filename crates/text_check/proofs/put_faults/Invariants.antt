use mathlib.Core.Path.{◌≡◌}
use Prim.Native.Nat.{◌*◌, ◌≤◌, ◌-◌}
use lib.ListN.{length}
use Rattle.text.specs.Text.{Written}
use Rattle.store_faulty.specs.Faulty.{form_of}
use Rattle.text_check.specs.Checking.{check_lines}
use Rattle.text_check.proofs.put_faults.Given as goal

abbrev pub invariant-loop-n : goal.invariant-loop-n
invariant-loop-n g l = (l.n ≤ l.count) × (length l.text ≡ length l.initial.text) × (l.end ≤ l.n * 128) × Written l.initial.text 0 (check_lines (form_of g.F.Form.byte) l.store l.n) l.end l.text
