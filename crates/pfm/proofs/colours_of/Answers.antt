-- `pfm::colours_of` meets its contract. Assumes nothing.
use mathlib.Core.Path.{refl}
use Prim.Native.Nat.{◌-◌}
use borrow.Author.Rules.{rules}
use Rattle.laws.proofs.Rows.{made_none, made_store, made_all}
use Rattle.pfm.specs.File.{colour_at}
use Rattle.pfm.specs.Bands.{colours_of}
use Rattle.pfm.proofs.colours_of.Goals as goal

pub loop-k-init : goal.loop-k-init
loop-k-init c = (search rules, made_none _ _)

pub loop-k-preserved : goal.loop-k-preserved
loop-k-preserved c =
    let l = c.loop-k in
    let s = c.args in
    (search rules, made_store (colour_at s.values.now) _ l.colours _ l.k c.of.result l.invariant.1 refl c.of.ensures (search rules))

pub returns : goal.returns
unfolding colours_of
returns c =
    let l = c.loop-k in
    made_all (colour_at c.args.values.now) _ l.colours 16 l.k l.invariant.1 (search rules) (search rules) (search rules)
