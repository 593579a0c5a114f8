-- `bc6_valid::indices_fit` meets its contract: one pixel a turn. Assumes nothing.
use borrow.Author.Rules.{rules}
use mathlib.Core.Path.{◌∙◌, refl, sym}
use Rattle.bc6_valid.specs.Validity.{index_fits}
use Rattle.laws.proofs.Below.{below_more, below_fails, below_upto}
use Rattle.bc6_valid.proofs.Sizes.{size_narrow}
use Rattle.bc6_valid.proofs.Verdict.{index_tested}
use Rattle.bc6_valid.proofs.indices_fit.Goals as goal

pub loop-pixel-init : goal.loop-pixel-init
loop-pixel-init c = refl

pub fits-requires : goal.fits-requires
fits-requires c = size_narrow _ _ _ c.stored_bits.ensures

pub returns-then-not-fits : goal.returns-then-not-fits
returns-then-not-fits c = below_fails (index_fits c.args.fields) 16 c.loop-pixel.pixel (sym (index_tested c.args.fields _ c.second_fixup-fixup.ensures c.stored_bits.ensures c.fits.ensures) ∙ c.if-not-fits.true) (search rules)

pub loop-pixel-preserved : goal.loop-pixel-preserved
loop-pixel-preserved c = below_more (index_fits c.args.fields) c.loop-pixel.pixel c.loop-pixel.invariant (sym (index_tested c.args.fields _ c.second_fixup-fixup.ensures c.stored_bits.ensures c.fits.ensures) ∙ c.if-not-fits.false)

pub returns : goal.returns
returns c = below_upto (index_fits c.args.fields) 16 c.loop-pixel.pixel c.loop-pixel.invariant (search rules) (search rules)
