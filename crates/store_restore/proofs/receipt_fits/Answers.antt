use mathlib.Core.Path.{refl, sym, ◌∙◌, ap}
use native.Mathlib.Omega.{arith}
use Rattle.laws.proofs.Below.{below_more}
use Rattle.store_receipt.specs.declared.Entry.{Entry}
use Rattle.store_restore.specs.Restore.{entry_fits}
use Rattle.store_restore.proofs.Fitting as laws
use borrow.Author.Rules.{rules}
use Rattle.store_restore.proofs.receipt_fits.Goals as goal

pub returns-then-receipt-ne0 : goal.returns-then-receipt-ne0
returns-then-receipt-ne0 c = laws.uneven_receipt _ _ (search rules)

pub loop-e-init : goal.loop-e-init
loop-e-init c = (search rules, refl, refl, search rules)

pub returns-then-not-entry_fits : goal.returns-then-not-entry_fits
returns-then-not-entry_fits c = laws.entry_fails _ _ c.loop-e.invariant.3 c.loop-e.e (sym c.entry_fits.ensures ∙ c.if-not-entry_fits.true) (search rules)

pub overflow_add-least : goal.overflow_add-least
overflow_add-least c =
    let a = c.args in
    let f = laws.fits_means a.receipt.now a.total c.loop-e.e (sym c.entry_fits.ensures ∙ c.if-not-entry_fits.false) in
    let q = ap (λ (y : Entry). y.number) c.entry_at-least.ensures in
    omega arith

pub loop-e-preserved : goal.loop-e-preserved
loop-e-preserved c =
    let i = c.loop-e in
    let a = c.args in
    (search rules, laws.least_next a.receipt.now i.e _ (ap (λ (y : Entry). y.number) c.entry_at-least.ensures), below_more (entry_fits a.receipt.now a.total) i.e i.invariant.2 (sym c.entry_fits.ensures ∙ c.if-not-entry_fits.false), i.invariant.3)

pub returns : goal.returns
returns c = let i = c.loop-e in laws.all_fit c.args.receipt.now c.args.total i.invariant.3 i.e i.invariant.2 (search rules) (search rules)
