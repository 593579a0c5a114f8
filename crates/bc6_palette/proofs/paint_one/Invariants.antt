-- `bc6_palette::paint_one` meets its contract: a turn stores the next pixel. Assumes nothing.
use mathlib.Core.Path.{◌≡◌}
use mathlib.Core.List.{◌++◌}
use Prim.Native.Nat.{◌-◌, ◌≤◌}
use lib.ListN.{drop}
use Rattle.laws.specs.Made.{made}
use Rattle.bc6_palette.specs.Triples.{one_pixel}
use Rattle.bc6_palette.proofs.paint_one.Given as goal

abbrev pub invariant-loop-k : goal.invariant-loop-k
invariant-loop-k l = (l.k ≤ 16) × (l.picture ≡ made (one_pixel l.palette l.indices) l.k ++ drop l.k l.initial.picture)

abbrev pub decreases-loop-k : goal.decreases-loop-k
decreases-loop-k l = 16 - l.k
