-- `bc6_writer::places_of` meets its contract: one place a turn. Assumes nothing.
use mathlib.Core.Path.{refl}
use native.Mathlib.Omega.{arith}
use lib.Dec.{lit≤}
use Rattle.laws.proofs.Rows.{made_none, made_store, made_all}
use Rattle.bc6_writer.proofs.places_of.Goals as goal

pub loop-place-init : goal.loop-place-init
loop-place-init c = made_none _ _

pub loop-place-preserved : goal.loop-place-preserved
loop-place-preserved c = made_store _ _ _ _ _ _ c.loop-place.invariant refl c.place_value.ensures (omega arith)

pub returns : goal.returns
returns c = made_all _ _ _ _ _ c.loop-place.invariant (omega arith) (omega arith) (lit≤ tt)
