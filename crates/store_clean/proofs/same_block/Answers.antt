use borrow.Author.Rules.{rules}
use borrow.Author.Count.{below_none, below_more}
use mathlib.Core.Path.{sym}
use Rattle.laws.proofs.Sameness.{same_not, same_all}
use Rattle.store_clean.proofs.same_block.Goals as goal

pub loop-k-init : goal.loop-k-init
loop-k-init c = (search rules, below_none _)

pub returns-then-a-k : goal.returns-then-a-k
returns-then-a-k c = let s = c.args in sym (same_not s.a.now s.b.now c.loop-k.k c.if-a-k.true)

pub loop-k-preserved : goal.loop-k-preserved
loop-k-preserved c = (search rules, below_more _ _ c.loop-k.invariant.1 c.if-a-k.false)

pub returns : goal.returns
returns c = sym (same_all c.args.a.now c.args.b.now _ _ c.requires.0 c.requires.1 c.loop-k-test.false c.loop-k.invariant.1)
