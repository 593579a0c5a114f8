use Rattle.store_restore.proofs.Fitting as laws
use borrow.Author.Rules.{rules}
use Rattle.store_restore.proofs.entry_fits.Goals as goal

pub returns-then-entry-least : goal.returns-then-entry-least
returns-then-entry-least c = let a = c.args in laws.code_low a.receipt.now a.total a.e a.least _ c.entry_at-entry.ensures (search rules) (search rules)

pub returns-then-entry-total : goal.returns-then-entry-total
returns-then-entry-total c = let a = c.args in laws.code_high a.receipt.now a.total a.e a.least _ c.entry_at-entry.ensures (search rules) (search rules) (search rules)

pub returns : goal.returns
returns c = let a = c.args in laws.code_last a.receipt.now a.total a.e a.least _ c.entry_at-entry.ensures (search rules) (search rules) (search rules)
