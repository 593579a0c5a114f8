use mathlib.Core.Path.{◌≡◌}
use Prim.Native.Nat.{◌*◌, ◌≤◌, ◌-◌}
use lib.ListN.{length}
use Rattle.text.specs.Text.{Written}
use Rattle.text_infinities.specs.Infinities.{infinite_lines, Counted}
use Rattle.text_infinities.proofs.put_findings.Given as goal

abbrev pub invariant-loop-n : goal.invariant-loop-n
invariant-loop-n l = (l.n ≤ l.count) × (length l.text ≡ length l.initial.text) × (l.end ≤ l.n * 128) × Counted l.store l.n l.records l.values × Written l.initial.text 0 (infinite_lines l.store l.n) l.end l.text

abbrev pub decreases-loop-n : goal.decreases-loop-n
decreases-loop-n l = l.count - l.n
