-- `bc7_blocks::paint_run` meets its contract: a turn paints the next block. Assumes nothing.
use mathlib.Core.Path.{◌≡◌}
use mathlib.Core.List.{◌++◌}
use Prim.Native.Nat.{◌≤◌, ◌-◌, ◌*◌}
use lib.ListN.{length, drop}
use Rattle.bc7_blocks.specs.Run.{run_of}
use Rattle.bc7_blocks.proofs.paint_run.Given as goal

abbrev pub invariant-loop-n : goal.invariant-loop-n
invariant-loop-n l = (l.n ≤ l.count) × (l.out ≡ run_of l.blocks l.n ++ drop (64 * l.n) l.initial.out) × (length l.out ≡ length l.initial.out)

abbrev pub decreases-loop-n : goal.decreases-loop-n
decreases-loop-n l = l.count - l.n
