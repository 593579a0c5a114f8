-- `run_show::numbers_in` meets its contract: one number a turn. Assumes nothing.
use mathlib.Core.Path.{refl}
use native.Mathlib.Omega.{arith}
use lib.Dec.{lit≤}
use Rattle.laws.proofs.Rows.{made_none, made_store, made_all}
use Rattle.run_show.specs.Picture.{number_in}
use Rattle.run_show.proofs.numbers_in.Goals as goal

pub loop-k-init : goal.loop-k-init
loop-k-init c = made_none _ _

pub loop-k-preserved : goal.loop-k-preserved
unfolding number_in
loop-k-preserved c = made_store _ _ _ _ _ _ c.loop-k.invariant refl c.u16_at.ensures (omega arith)

pub returns : goal.returns
returns c = made_all _ _ _ _ _ c.loop-k.invariant (omega arith) (omega arith) (lit≤ tt)
