-- `bc6_colour::delta_of` meets its contract: by the format and the mode. Assumes nothing.
use mathlib.Core.Path.{◌≡◌, sym, ap, ◌∙◌}
use mathlib.Core.Bool.{Bool}
use Prim.Native.Nat.{ℕ}
use lib.IntN.{ℤ, nat_abs}
use mir.Syntax.{w32}
use mir.Val.{to_z}
use Rattle.bc6h_spec.specs.Half.{sign_extend}
use Rattle.bc6h_spec.specs.Picture.{delta}
use Rattle.laws.proofs.Num.{widened, read}
use Rattle.bc6_colour.proofs.delta_of.Goals as goal

-- the definition, where the format and the mode are known
known : {signed moved t u : Bool} (width field : ℕ) → signed ≡ t → moved ≡ u → delta t u width field ≡ delta signed moved width field
known w x e f = sym (λ i. delta (e i) (f i) w x)

pub returns-then-signed : goal.returns-then-signed
unfolding delta
returns-then-signed c =
    let extended : sign_extend c.args.width (nat_abs (to_z w32 c.args.field)) ≡ sign_extend c.args.width c.args.field = ap (λ (z : ℤ). sign_extend c.args.width (nat_abs z)) (widened c.ranges.field.fits) in
    read c.sign_extend.type_inv c.sign_extend.ensures ∙ extended ∙ known _ _ c.if-signed.true (λ i. c.args.moved)

pub returns-then-moved : goal.returns-then-moved
unfolding delta
returns-then-moved c =
    let extended : sign_extend c.args.width (nat_abs (to_z w32 c.args.field)) ≡ sign_extend c.args.width c.args.field = ap (λ (z : ℤ). sign_extend c.args.width (nat_abs z)) (widened c.ranges.field.fits) in
    read c.sign_extend-then-moved.type_inv c.sign_extend-then-moved.ensures ∙ extended ∙ known _ _ c.if-signed.false c.if-moved.true

pub returns : goal.returns
unfolding delta
returns c = widened c.ranges.field.fits ∙ known _ _ c.if-signed.false c.if-moved.false
