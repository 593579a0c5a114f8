-- `bc7_paint::paint_one` meets its contract: two pixels a turn. Assumes nothing.
use Prim.Native.Nat.{◌-◌, ◌≤◌}
use Rattle.bc7_paint.specs.Shades.{shade_byte}
use Rattle.bc7_paint.proofs.Halves.{Halves}
use Rattle.bc7_paint.proofs.paint_one.Given as goal

abbrev pub invariant-loop-k : goal.invariant-loop-k
invariant-loop-k l = (l.k ≤ 8) × Halves (shade_byte l.ends 0 0 l.rotation l.colours l.alphas) l.k l.initial.out l.out

abbrev pub decreases-loop-k : goal.decreases-loop-k
decreases-loop-k l = 8 - l.k
