-- `bc6_half::interpolate` meets its contract. Each step of the sum is a `Num`: bounded, so what the machine reads back from its bits is the number.
use mathlib.Core.Path.{◌∙◌, sym, ap}
use native.Mathlib.Omega.{arith}
use Prim.Native.Nat.{◌-◌}
use lib.IntN.{ℤ, pos, ◌+ℤ◌, ◌*ℤ◌}
use lib.Signed.{shr_z}
use Rattle.bc6h_spec.specs.Half.{interpolated}
use Rattle.laws.proofs.Num.{Num, arg, lit, add, mul, shr, need, kept, diff, wide}
use Rattle.bc6_half.proofs.interpolate.Goals as goal

pub overflow_add-result-2 : goal.overflow_add-result-2
overflow_add-result-2 c =
    let low : Num = mul (arg 65536 c.ranges.a c.requires.0.0.inside) (wide 64 {f = 64 - c.args.w} (omega arith) tt) in
    let high : Num = mul (arg 65536 c.ranges.b c.requires.0.1.inside) (wide 64 c.requires.1 tt) in
    let both : Num = add (kept low tt) (kept high tt) in
    let sum : ℤ → Num = λ k. add (kept both tt) (lit k) in
    need (sum _) tt

pub returns : goal.returns
unfolding interpolated
returns c =
    let low : Num = mul (arg 65536 c.ranges.a c.requires.0.0.inside) (wide 64 {f = 64 - c.args.w} (omega arith) tt) in
    let high : Num = mul (arg 65536 c.ranges.b c.requires.0.1.inside) (wide 64 c.requires.1 tt) in
    let both : Num = add (kept low tt) (kept high tt) in
    let sum : ℤ → Num = λ k. add (kept both tt) (lit k) in
    let a = c.args in
    (kept (shr 64 (kept (sum (pos 32)) tt)) tt).is
    ∙ sym (ap (λ (z : ℤ). shr_z (a.a *ℤ z +ℤ a.b *ℤ pos a.w +ℤ pos 32) 64) (diff 64 a.w c.requires.1))
