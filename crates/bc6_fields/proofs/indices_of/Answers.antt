-- `bc6_fields::indices_of` meets its contract: one index a turn. Assumes nothing.
use mathlib.Core.Path.{refl}
use native.Mathlib.Omega.{arith}
use lib.Dec.{lit≤}
use Rattle.laws.proofs.Rows.{made_none, made_store, made_all}
use Rattle.bc6_fields.proofs.indices_of.Goals as goal

pub loop-pixel-init : goal.loop-pixel-init
loop-pixel-init c = made_none _ _

pub loop-pixel-preserved : goal.loop-pixel-preserved
loop-pixel-preserved c = made_store _ _ _ _ _ _ c.loop-pixel.invariant refl c.get_index.ensures (omega arith)

pub returns : goal.returns
returns c = made_all _ _ _ _ _ c.loop-pixel.invariant (omega arith) (omega arith) (lit≤ tt)
