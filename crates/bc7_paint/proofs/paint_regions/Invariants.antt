-- `bc7_paint::paint_regions` meets its contract: eight stores a turn, of pixels 2 p and 2 p + 1. Assumes nothing.
use mathlib.Core.Path.{◌≡◌}
use Prim.Native.Nat.{◌-◌, ◌*◌, ◌/◌, ◌^◌, ◌≤◌}
use lib.ListN.{length}
use Rattle.bc7_paint.specs.Shades.{shade_byte}
use Rattle.bc7_paint.proofs.Shading.{Made}
use Rattle.bc7_paint.proofs.paint_regions.Given as goal

abbrev pub invariant-loop-p : goal.invariant-loop-p
invariant-loop-p l = (l.p ≤ 8) × (l.ones_left ≡ l.ones / 2 ^ (2 * l.p)) × (l.twos_left ≡ l.twos / 2 ^ (2 * l.p)) × Made (shade_byte l.ends l.ones l.twos 0 l.weights l.weights) (4 * (2 * l.p)) l.initial.out l.out × (length l.out ≡ length l.initial.out)

abbrev pub decreases-loop-p : goal.decreases-loop-p
decreases-loop-p l = 8 - l.p
