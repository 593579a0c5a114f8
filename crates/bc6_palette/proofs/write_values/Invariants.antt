-- `bc6_palette::write_values` meets its contract: a turn stores the next value. Assumes nothing.
use mathlib.Core.Path.{◌≡◌}
use mathlib.Core.List.{◌++◌}
use Prim.Native.Nat.{◌-◌, ◌≤◌}
use lib.ListN.{length, drop}
use Rattle.laws.specs.Made.{made}
use Rattle.bc6_palette.specs.Triples.{triple_value}
use Rattle.bc6_palette.proofs.write_values.Given as goal

abbrev pub invariant-loop-j : goal.invariant-loop-j
invariant-loop-j l = (l.j ≤ 48) × (l.out ≡ made (triple_value l.triples) l.j ++ drop l.j l.initial.out) × (length l.out ≡ length l.initial.out)

abbrev pub decreases-loop-j : goal.decreases-loop-j
decreases-loop-j l = 48 - l.j
