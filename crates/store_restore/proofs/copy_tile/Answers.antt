use mathlib.Core.Path.{◌≡◌, refl}
use native.Mathlib.Omega.{arith}
use lib.ListN.{drop, length-set}
use lib.Seq.{paste-zero}
use borrow.Author.Rules.{rules}
use Rattle.store_restore.proofs.Copying.{part_more}
use Rattle.store_restore.proofs.copy_tile.Goals as goal

pub loop-k-init : goal.loop-k-init
loop-k-init c = (search rules, paste-zero c.args.out.now c.args.to (drop c.args.from c.args.receipt.now), refl)

pub loop-k-preserved : goal.loop-k-preserved
loop-k-preserved c =
    let i = c.loop-k in
    let a = c.args in
    (search rules, part_more a.out.now i.out a.receipt.now a.from a.to 4 i.k _ i.invariant.1 refl (omega arith) (search rules) (search rules), simp length-set i.invariant.2)

pub returns : goal.returns
returns c = let e : c.loop-k.k ≡ 4 = omega arith in rw e at c.loop-k.invariant.1
