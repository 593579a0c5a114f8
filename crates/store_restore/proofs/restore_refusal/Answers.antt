use mathlib.Core.Path.{sym, ◌∙◌}
use Rattle.store_restore.proofs.Fitting as laws
use borrow.Author.Rules.{rules}
use Rattle.store_restore.proofs.restore_refusal.Goals as goal

pub returns-then-cleaned-gt-STORE : goal.returns-then-cleaned-gt-STORE
returns-then-cleaned-gt-STORE c = sym (laws.long _ _ _ (search rules))

pub returns-then-total-gt-RECORDS : goal.returns-then-total-gt-RECORDS
returns-then-total-gt-RECORDS c = sym (laws.many _ _ _ (search rules) (search rules))

pub returns-then-cleaned-ne0 : goal.returns-then-cleaned-ne0
returns-then-cleaned-ne0 c = sym (laws.uneven _ _ _ (search rules) (search rules) (search rules))

pub returns-then-not-receipt_fits : goal.returns-then-not-receipt_fits
returns-then-not-receipt_fits c = sym (laws.unfit _ _ _ (search rules) (search rules) (search rules) (sym (laws.fits_of _ _ _ c.receipt_fits.ensures (search rules)) ∙ c.if-not-receipt_fits.true))

pub returns-then-room-total : goal.returns-then-room-total
returns-then-room-total c = sym (laws.short _ _ _ (search rules) (search rules) (search rules) (sym (laws.fits_of _ _ _ c.receipt_fits.ensures (search rules)) ∙ c.if-not-receipt_fits.false) (search rules))

pub returns : goal.returns
returns c = sym (laws.fine _ _ _ (search rules) (search rules) (search rules) (sym (laws.fits_of _ _ _ c.receipt_fits.ensures (search rules)) ∙ c.if-not-receipt_fits.false) (search rules))
