use mathlib.Core.Path.{◌≡◌}
use mathlib.Core.List.{◌++◌}
use Prim.Native.Nat.{◌≤◌, ◌-◌}
use lib.ListN.{length, drop}
use Rattle.laws.specs.Made.{made}
use Rattle.laws.specs.First.{first_below}
use Rattle.store_spec.specs.Twins.{kept_mark, alike, mark_at}
use Rattle.store_marks.proofs.mark_records.Given as goal

abbrev pub invariant-search : goal.invariant-search
invariant-search l = (l.earlier ≤ l.n) × (l.mark ≡ kept_mark) × (first_below (alike l.store l.n) l.earlier ≡ l.earlier)

abbrev pub decreases-search : goal.decreases-search
decreases-search l = l.n - l.earlier

abbrev pub invariant-loop-n : goal.invariant-loop-n
invariant-loop-n l = (l.n ≤ l.count) × (l.marks ≡ made (mark_at l.store) l.n ++ drop l.n l.initial.marks) × (length l.marks ≡ length l.initial.marks)

abbrev pub decreases-loop-n : goal.decreases-loop-n
decreases-loop-n l = l.count - l.n
