-- `bc6_valid::indices_fit` meets its contract: one pixel a turn. Assumes nothing.
use mathlib.Core.Path.{◌≡◌}
use mathlib.Core.Bool.{true}
use Rattle.laws.specs.Every.{below}
use Rattle.bc6_valid.specs.Validity.{index_fits}
use Rattle.bc6_valid.proofs.indices_fit.Given as goal

abbrev pub invariant-loop-pixel : goal.invariant-loop-pixel
invariant-loop-pixel l = below (index_fits l.fields) l.pixel ≡ true
