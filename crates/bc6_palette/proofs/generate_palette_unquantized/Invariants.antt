-- `bc6_palette::generate_palette_unquantized` meets its contract: a turn stores the next entry. Assumes nothing.
use mathlib.Core.Path.{◌≡◌}
use mathlib.Core.List.{◌++◌}
use Prim.Native.Nat.{◌-◌, ◌≤◌}
use lib.ListN.{drop}
use Rattle.laws.specs.Made.{made}
use Rattle.bc6_half.specs.Halves.{weights_of}
use Rattle.bc6_palette.specs.Palettes.{palette_entry}
use Rattle.bc6_palette.proofs.generate_palette_unquantized.Given as goal

abbrev pub invariant-loop-i : goal.invariant-loop-i
invariant-loop-i g l = (l.i ≤ g.row.COUNT) × (l.palette ≡ made (palette_entry l.signed l.a l.b (weights_of g.row.BITS)) l.i ++ drop l.i l.initial.palette)

abbrev pub decreases-loop-i : goal.decreases-loop-i
decreases-loop-i g l = g.row.COUNT - l.i
