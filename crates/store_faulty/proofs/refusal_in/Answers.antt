use native.Mathlib.Omega.{arith}
use Rattle.store_faulty.proofs.Forms.{size_some, long, uneven, whole}
use borrow.Author.Rules.{rules}
use Rattle.store_faulty.proofs.refusal_in.Goals as goal

pub returns-then-store-limit : goal.returns-then-store-limit
returns-then-store-limit g c = long _ _ (search rules)

pub nonzero_rem-store : goal.nonzero_rem-store
nonzero_rem-store g c = omega (arith, size_some g.F.Form.byte)

pub returns-then-store-size-ne0 : goal.returns-then-store-size-ne0
returns-then-store-size-ne0 g c = uneven _ _ (search rules) (rw c.size.ensures at c.if-store-size-ne0.true)

pub returns : goal.returns
returns g c = whole _ _ (search rules) (rw c.size.ensures at c.if-store-size-ne0.false)
