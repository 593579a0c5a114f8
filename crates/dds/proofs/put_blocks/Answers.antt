-- `dds::put_blocks` meets its contract. Assumes nothing.
use mathlib.Core.Path.{◌≡◌, refl}
use native.Mathlib.Numerals.{add-one}
use native.Mathlib.Omega.{arith}
use lib.ListN.{length, length-set}
use lib.Seq.{paste-zero, paste-suc}
use borrow.Author.Rules.{rules}
use Rattle.dds.specs.Dds.{header_size}
use Rattle.dds.proofs.put_blocks.Goals as goal

pub loop-i-init : goal.loop-i-init
loop-i-init c = (search rules, paste-zero c.args.out.now header_size c.args.blocks.now, refl)

pub loop-i-preserved : goal.loop-i-preserved
loop-i-preserved c =
    let l = c.loop-i in
    (search rules, rw (l.invariant.1, add-one) (paste-suc c.args.out.now header_size c.args.blocks.now l.i 0 (omega arith) (omega arith)), simp length-set l.invariant.2)

pub returns : goal.returns
returns c =
    let e : c.loop-i.i ≡ length c.args.blocks.now = omega arith in
    rw e at c.loop-i.invariant.1
