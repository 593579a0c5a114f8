-- `bc6_valid::fits` meets its contract. Assumes nothing.
use borrow.Author.Rules.{rules}
use Rattle.bc6_valid.proofs.Sizes.{below_power}
use Rattle.bc6_valid.proofs.fits.Goals as goal

pub returns : goal.returns
returns c = below_power c.args.value c.args.bits (search rules)
