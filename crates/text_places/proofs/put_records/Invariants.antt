use mathlib.Core.Path.{◌≡◌}
use Prim.Native.Nat.{◌*◌, ◌≤◌, ◌-◌}
use lib.ListN.{length}
use Rattle.text.specs.Text.{Written}
use Rattle.text_places.specs.Lines.{lines_of}
use Rattle.text_places.proofs.put_records.Given as goal

abbrev pub invariant-loop-n : goal.invariant-loop-n
invariant-loop-n l = (l.n ≤ l.count) × (length l.text ≡ length l.initial.text) × (l.end ≤ l.n * 192) × Written l.initial.text 0 (lines_of l.store l.n) l.end l.text
