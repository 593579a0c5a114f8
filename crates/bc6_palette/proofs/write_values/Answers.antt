-- `bc6_palette::write_values` meets its contract: a turn stores the next value. Assumes nothing.
use borrow.Author.Rules.{rules}
use mathlib.Core.Path.{refl}
use native.Mathlib.Omega.{arith}
use lib.ListN.{length-set}
use Rattle.laws.proofs.Rows.{made_none, made_store, made_upto}
use Rattle.bc6_palette.specs.Triples.{triple_half, triple_value, flat}
use Rattle.bc6_palette.proofs.write_values.Goals as goal

pub loop-j-init : goal.loop-j-init
loop-j-init c = (search rules, made_none _ _, refl)

pub loop-j-preserved : goal.loop-j-preserved
unfolding triple_value triple_half
loop-j-preserved c =
    let l = c.loop-j in
    (search rules, made_store _ _ _ _ _ _ l.invariant.1 refl refl (omega arith), simp length-set l.invariant.2)

pub returns : goal.returns
unfolding flat
returns c = let l = c.loop-j in made_upto _ _ _ 48 l.j l.invariant.1 (omega arith) (omega arith)
