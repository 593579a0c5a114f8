-- `bc6_writer::places_of` meets its contract: one place a turn. Assumes nothing.
use mathlib.Core.Path.{◌≡◌}
use mathlib.Core.List.{◌++◌}
use lib.ListN.{drop}
use Rattle.laws.specs.Made.{made}
use Rattle.bc6h_spec.specs.Writer.{at_place}
use Rattle.bc6_writer.proofs.places_of.Given as goal

abbrev pub invariant-loop-place : goal.invariant-loop-place
invariant-loop-place l = l.value-items ≡ made (at_place l.fields) l.place ++ drop l.place l.initial.value-items
