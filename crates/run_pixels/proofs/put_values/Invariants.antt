-- `run_pixels::put_values` meets its contract: two stores a turn. Assumes nothing.
use mathlib.Core.Path.{◌≡◌}
use mathlib.Core.List.{◌++◌}
use Prim.Native.Nat.{◌*◌}
use lib.ListN.{drop}
use Rattle.laws.specs.Made.{made}
use Rattle.run_pixels.specs.Shown.{value_byte}
use Rattle.run_pixels.proofs.put_values.Given as goal

abbrev pub invariant-loop-j : goal.invariant-loop-j
invariant-loop-j l = l.out ≡ made (value_byte l.value-items) (2 * l.j) ++ drop (2 * l.j) l.initial.out
