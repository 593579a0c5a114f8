-- `bc6_valid::endpoints_fit` meets its contract: one place a turn. Assumes nothing.
use mathlib.Core.Path.{◌≡◌}
use mathlib.Core.Bool.{true}
use Rattle.laws.specs.Every.{below}
use Rattle.bc6_valid.specs.Validity.{endpoint_fits}
use Rattle.bc6_valid.proofs.endpoints_fit.Given as goal

abbrev pub invariant-loop-place : goal.invariant-loop-place
invariant-loop-place l = below (endpoint_fits l.fields) l.place ≡ true
