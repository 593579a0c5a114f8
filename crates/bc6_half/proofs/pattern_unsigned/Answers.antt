-- `bc6_half::pattern_unsigned` meets its contract. Assumes nothing.
use native.Mathlib.Omega.{arith}
use lib.IntN.{ℤ, pos}
use Rattle.laws.proofs.Num.{Num, lit, mul, shr, kept, u16_is, wide}
use Rattle.bc6_half.proofs.Laws.{finish_u_is}
use Rattle.bc6_half.proofs.pattern_unsigned.Goals as goal

pub returns : goal.returns
returns c =
    let product : ℤ → Num = λ k. mul (wide 65535 {f = c.args.u} (omega (arith, c.ranges.u.fits)) tt) (lit k) in
    let out : Num = kept (shr 64 (kept (product (pos 31)) tt)) tt in
    u16_is out (finish_u_is (pos c.args.u) tt)
