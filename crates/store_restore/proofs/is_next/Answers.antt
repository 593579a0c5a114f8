use Rattle.store_restore.proofs.Restoring as laws
use borrow.Author.Rules.{rules}
use Rattle.store_restore.proofs.is_next.Goals as goal

pub returns-then-e-receipt : goal.returns-then-e-receipt
returns-then-e-receipt c = let a = c.args in laws.next_none a.receipt.now a.e a.n (search rules)

pub returns : goal.returns
returns c = let a = c.args in laws.next_is a.receipt.now a.e a.n _ c.entry_at.ensures (search rules)
