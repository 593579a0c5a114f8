-- `bc6_paint::paint` meets its contract: pixels k and 8 + k a turn, a channel of both after the other, and two flags each. Assumes nothing.
use mathlib.Core.Path.{◌≡◌}
use mathlib.Core.Bool.{not}
use Prim.Native.Nat.{ℕ, ◌-◌, ◌*◌}
use lib.Dec.{eqb}
use Rattle.bc6_endpoints.specs.Ends.{end_in}
use Rattle.bc6_paint.specs.Values.{block_value}
use Rattle.bc6_paint.proofs.Pixels.{Fronts, Counts}
use Rattle.bc6_paint.proofs.paint.Given as goal

abbrev pub invariant-loop-k : goal.invariant-loop-k
invariant-loop-k g l =
    let value : ℕ → ℕ = block_value (not (eqb g.row.SIGNED 0)) g.row.BITS (end_in (record { red = l.red; green = l.green; blue = l.blue })) l.map l.word in
    Fronts value (3 * l.k) l.initial.out l.out × (g.row.BITS ≡ 4 → Counts value (3 * l.k) l.infinite)

abbrev pub decreases-loop-k : goal.decreases-loop-k
decreases-loop-k g l = 8 - l.k
