-- `bc6_colour::transform_one` meets its contract. Assumes nothing.
use mathlib.Core.Path.{◌≡◌, sym, ap, subst, ◌∙◌}
use mathlib.Core.Bool.{Bool}
use native.Mathlib.Omega.{arith}
use Prim.Native.Nat.{◌^◌}
use lib.IntN.{ℤ, pos, nat_abs, ◌+ℤ◌}
use mir.Syntax.{w32}
use mir.Val.{to_z, of_z}
use mir.ValLaws.{to_z-of_z}
use Rattle.laws.specs.Ranges.{Below}
use Rattle.bc6h_spec.specs.Half.{keep, sign_extend, transform}
use Rattle.laws.proofs.Num.{Num, arg, add, kept}
use Rattle.bc6h_spec.proofs.Ranges.{keep_lt}
use Rattle.bc6_colour.proofs.transform_one.Goals as goal

pub sign_extend-requires : goal.sign_extend-requires
sign_extend-requires c =
    let sum : Num = add (arg 65536 c.ranges.a c.requires.2.0.inside) (arg 65536 c.ranges.d c.requires.2.1.inside) in
    let low : to_z w32 (of_z w32 c.keep_bits-sum.result) ≡ pos (keep c.args.bits (c.args.a +ℤ c.args.d)) = to_z-of_z w32 c.keep_bits-sum.result (record { sfits = c.keep_bits-sum.type_inv })
    ∙ c.keep_bits-sum.ensures
    ∙ ap (λ (z : ℤ). pos (keep c.args.bits z)) (kept sum tt).is in (
      c.requires.0,
      omega (arith, c.requires.1),
      subst (Below (2 ^ c.args.bits)) (sym low) (record { nonneg = tt; below = keep_lt c.args.bits (c.args.a +ℤ c.args.d) }),
    )

pub returns-then-signed : goal.returns-then-signed
unfolding transform
returns-then-signed c =
    let sum : Num = add (arg 65536 c.ranges.a c.requires.2.0.inside) (arg 65536 c.ranges.d c.requires.2.1.inside) in
    let low : to_z w32 (of_z w32 c.keep_bits-sum.result) ≡ pos (keep c.args.bits (c.args.a +ℤ c.args.d)) = to_z-of_z w32 c.keep_bits-sum.result (record { sfits = c.keep_bits-sum.type_inv })
    ∙ c.keep_bits-sum.ensures
    ∙ ap (λ (z : ℤ). pos (keep c.args.bits z)) (kept sum tt).is in
    let s = c.args in
    to_z-of_z w32 c.sign_extend.result (record { sfits = c.sign_extend.type_inv })
    ∙ c.sign_extend.ensures
    ∙ ap (λ (z : ℤ). sign_extend s.bits (nat_abs z)) low
    ∙ sym (ap (λ (t : Bool). transform t s.bits s.a s.d) c.if-signed.true)

pub returns-else-signed : goal.returns-else-signed
unfolding transform
returns-else-signed c =
    let sum : Num = add (arg 65536 c.ranges.a c.requires.2.0.inside) (arg 65536 c.ranges.d c.requires.2.1.inside) in
    let low : to_z w32 (of_z w32 c.keep_bits-sum.result) ≡ pos (keep c.args.bits (c.args.a +ℤ c.args.d)) = to_z-of_z w32 c.keep_bits-sum.result (record { sfits = c.keep_bits-sum.type_inv })
    ∙ c.keep_bits-sum.ensures
    ∙ ap (λ (z : ℤ). pos (keep c.args.bits z)) (kept sum tt).is in
    let s = c.args in
    low
    ∙ sym (ap (λ (t : Bool). transform t s.bits s.a s.d) c.if-signed.false)
