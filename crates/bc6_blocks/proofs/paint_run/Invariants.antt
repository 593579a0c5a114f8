-- `bc6_blocks::paint_run` meets its contract: a turn paints the next block and counts what it shows. Assumes nothing.
use mathlib.Core.Path.{◌≡◌}
use mathlib.Core.List.{◌++◌}
use Prim.Native.Nat.{◌≤◌, ◌-◌, ◌*◌}
use lib.ListN.{length, drop}
use Rattle.laws.specs.Made.{count_of}
use Rattle.bc6h_spec.specs.Half.{minus_infinity}
use Rattle.bc6_blocks.specs.Run.{run_of}
use Rattle.bc6_blocks.proofs.paint_run.Given as goal

abbrev pub invariant-loop-n : goal.invariant-loop-n
invariant-loop-n l =
    (l.n ≤ l.count) × (l.out ≡ run_of l.signed l.blocks l.n ++ drop (48 * l.n) l.initial.out) × (length l.out ≡ length l.initial.out)
    × (l.infinite ≡ count_of minus_infinity (run_of l.signed l.blocks l.n))

abbrev pub decreases-loop-n : goal.decreases-loop-n
decreases-loop-n l = l.count - l.n
