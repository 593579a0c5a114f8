-- `bc6_half::number` meets its contract, in each format. Assumes nothing.
use mathlib.Core.Path.{◌∙◌, ap}
use lib.IntN.{ℤ, nat_abs}
use Rattle.laws.proofs.Num.{read, widened}
use Rattle.bc6h_spec.specs.Half.{sign_extend}
use Rattle.bc6_half.specs.Halves.{signed_number}
use Rattle.bc6_half.proofs.Formats.{is_signed, is_unsigned}
use Rattle.bc6_half.proofs.number.Goals as goal

pub returns-then-this-ne0 : goal.returns-then-this-ne0
unfolding signed_number
returns-then-this-ne0 g c =
    rw (is_signed c.if-this-ne0.true)
    (read c.sign_extend.type_inv c.sign_extend.ensures ∙ ap (λ (z : ℤ). sign_extend 16 (nat_abs z)) (widened c.ranges.u.fits))

pub returns : goal.returns
unfolding signed_number
returns g c = rw (is_unsigned c.if-this-ne0.false) (widened c.ranges.u.fits)
