-- `bc6_colour::unquantize_signed` meets its contract: by the sign. Assumes nothing.
use mathlib.Core.Path.{◌≡◌, sym, ap, ◌∙◌}
use mathlib.Core.Bool.{Bool, true}
use native.Mathlib.Omega.{arith}
use Prim.Native.Nat.{◌-◌, ◌^◌, ◌<◌, ◌≤◌}
use lib.IntN.{ℤ, pos, neg_ℤ, nat_abs}
use lib.Pow.{pow_mono}
use lib.Signed.{mag}
use mir.Syntax.{w32}
use mir.Val.{to_z, of_z}
use mir.ValLaws.{to_z-of_z}
use borrow.Author.Tests.{lt-leb}
use Rattle.laws.specs.Pick.{pick}
use Rattle.bc6h_spec.specs.Half.{with_sign, unquantize_m, unquantized}
use Rattle.laws.proofs.Num.{Num, arg, lit, neg, given, kept, lt_flag}
use Rattle.bc6_colour.proofs.Unquantising.{sign_neg, sign_pos}
use Rattle.bc6h_spec.proofs.Ranges.{u_m_le}
use Rattle.bc6_colour.proofs.unquantize_signed.Goals as goal

pub returns-then-c-lt0 : goal.returns-then-c-lt0
unfolding unquantized
returns-then-c-lt0 c =
    let half : mag c.args.c < 2 ^ (c.args.bits - 1) = c.requires.2.inside in
    let x : Num = let l : 2 ^ (c.args.bits - 1) ≤ 16384 = pow_mono {j = 14} (omega arith) in
    arg 16384 c.ranges.c (omega (arith, half)) in
    let signed_is : with_sign c.args.c (unquantize_m c.args.bits (nat_abs c.args.c)) ≡ unquantized true c.args.bits c.args.c = let few : c.args.bits < 16 = omega (arith, c.requires.1) in
    sym (ap (λ (t : Bool). pick t c.args.c (with_sign c.args.c (unquantize_m c.args.bits (nat_abs c.args.c)))) (lt-leb 16 c.args.bits few)) in
    let size : to_z w32 (of_z w32 c.magnitude.result) ≡ pos (nat_abs c.args.c) = to_z-of_z w32 c.magnitude.result (record { sfits = c.magnitude.type_inv }) ∙ c.magnitude.ensures
    ∙ ap (λ (z : ℤ). pos (nat_abs z)) (to_z-of_z w32 c.args.c c.ranges.c) in
    let made : c.unquantize_magnitude-t.result ≡ pos (unquantize_m c.args.bits (nat_abs c.args.c)) = c.unquantize_magnitude-t.ensures ∙ ap (λ (z : ℤ). pos (unquantize_m c.args.bits (nat_abs z))) size in
    let result : Num = given 32767 c.unquantize_magnitude-t.result (record { sfits = c.unquantize_magnitude-t.type_inv }) (rw made (u_m_le _ _)) in
    (kept (neg result) tt).is
    ∙ ap neg_ℤ made
    ∙ sym (sign_neg c.args.c _ (lt_flag x (lit (pos 0)) c.if-c-lt0.true))
    ∙ signed_is

pub returns : goal.returns
unfolding unquantized
returns c =
    let half : mag c.args.c < 2 ^ (c.args.bits - 1) = c.requires.2.inside in
    let x : Num = let l : 2 ^ (c.args.bits - 1) ≤ 16384 = pow_mono {j = 14} (omega arith) in
    arg 16384 c.ranges.c (omega (arith, half)) in
    let signed_is : with_sign c.args.c (unquantize_m c.args.bits (nat_abs c.args.c)) ≡ unquantized true c.args.bits c.args.c = let few : c.args.bits < 16 = omega (arith, c.requires.1) in
    sym (ap (λ (t : Bool). pick t c.args.c (with_sign c.args.c (unquantize_m c.args.bits (nat_abs c.args.c)))) (lt-leb 16 c.args.bits few)) in
    let size : to_z w32 (of_z w32 c.magnitude.result) ≡ pos (nat_abs c.args.c) = to_z-of_z w32 c.magnitude.result (record { sfits = c.magnitude.type_inv }) ∙ c.magnitude.ensures
    ∙ ap (λ (z : ℤ). pos (nat_abs z)) (to_z-of_z w32 c.args.c c.ranges.c) in
    let made : c.unquantize_magnitude-t.result ≡ pos (unquantize_m c.args.bits (nat_abs c.args.c)) = c.unquantize_magnitude-t.ensures ∙ ap (λ (z : ℤ). pos (unquantize_m c.args.bits (nat_abs z))) size in
    let result : Num = given 32767 c.unquantize_magnitude-t.result (record { sfits = c.unquantize_magnitude-t.type_inv }) (rw made (u_m_le _ _)) in
    result.is
    ∙ made
    ∙ sym (sign_pos c.args.c _ (lt_flag x (lit (pos 0)) c.if-c-lt0.false))
    ∙ signed_is
