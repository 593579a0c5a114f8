-- `bc6_colour::first_end` meets its contract: by the format. Assumes nothing.
use mathlib.Core.Path.{sym, ap, ◌∙◌}
use mathlib.Core.Bool.{Bool}
use lib.IntN.{ℤ, nat_abs}
use Rattle.bc6h_spec.specs.Half.{sign_extend}
use Rattle.bc6h_spec.specs.Picture.{first_end}
use Rattle.laws.proofs.Num.{widened, read}
use Rattle.bc6_colour.proofs.first_end.Goals as goal

pub returns-then-signed : goal.returns-then-signed
unfolding first_end
returns-then-signed c =
    read c.sign_extend.type_inv c.sign_extend.ensures
    ∙ ap (λ (z : ℤ). sign_extend c.args.bits (nat_abs z)) (widened c.ranges.field.fits)
    ∙ sym (ap (λ (t : Bool). first_end t c.args.bits c.args.field) c.if-signed.true)

pub returns-else-signed : goal.returns-else-signed
unfolding first_end
returns-else-signed c =
    widened c.ranges.field.fits
    ∙ sym (ap (λ (t : Bool). first_end t c.args.bits c.args.field) c.if-signed.false)
