use Prim.Native.Nat.{◌-◌}
use mathlib.Core.Path.{refl}
use lib.ListN.{length-set}
use Rattle.laws.proofs.Rows.{made_none, made_store, made_upto}
use Rattle.probe_moves.specs.Moves.{placed_store}
use borrow.Author.Rules.{rules}
use Rattle.probe_moves.proofs.place_records.Goals as goal

pub loop-j-init : goal.loop-j-init
unfolding placed_store
loop-j-init c = (search rules, made_none _ _, refl)

pub loop-j-preserved : goal.loop-j-preserved
loop-j-preserved c = let i = c.loop-j.invariant in (search rules, made_store _ _ _ _ _ _ i.1 refl c.placed_byte.ensures (search rules), simp length-set i.2)

pub returns : goal.returns
unfolding placed_store
returns c = made_upto _ _ _ _ _ c.loop-j.invariant.1 (search rules) (search rules)
