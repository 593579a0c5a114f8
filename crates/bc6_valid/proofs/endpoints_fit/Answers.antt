-- `bc6_valid::endpoints_fit` meets its contract: one place a turn. Assumes nothing.
use borrow.Author.Rules.{rules}
use mathlib.Core.Path.{◌∙◌, refl, sym}
use Rattle.bc6_valid.specs.Validity.{endpoint_fits}
use Rattle.laws.proofs.Below.{below_more, below_fails, below_upto}
use Rattle.bc6_valid.proofs.Sizes.{narrow}
use Rattle.bc6_valid.proofs.Verdict.{end_tested}
use Rattle.bc6_valid.proofs.endpoints_fit.Goals as goal

pub loop-place-init : goal.loop-place-init
loop-place-init c = refl

pub fits-requires : goal.fits-requires
fits-requires c = narrow _ _ (search rules) (search rules) (search rules) c.place_bits.ensures

pub returns-then-not-fits : goal.returns-then-not-fits
returns-then-not-fits c = below_fails (endpoint_fits c.args.fields) 12 c.loop-place.place (sym (end_tested c.args.fields _ c.place_bits.ensures c.fits.ensures) ∙ c.if-not-fits.true) (search rules)

pub loop-place-preserved : goal.loop-place-preserved
loop-place-preserved c = below_more (endpoint_fits c.args.fields) c.loop-place.place c.loop-place.invariant (sym (end_tested c.args.fields _ c.place_bits.ensures c.fits.ensures) ∙ c.if-not-fits.false)

pub returns : goal.returns
returns c = below_upto (endpoint_fits c.args.fields) 12 c.loop-place.place c.loop-place.invariant (search rules) (search rules)
