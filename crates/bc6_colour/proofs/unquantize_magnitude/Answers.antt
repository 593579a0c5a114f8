-- `bc6_colour::unquantize_magnitude` meets its contract: one law of `unquantize_m` for each return. Assumes nothing.
use mathlib.Core.Path.{sym, ap, ◌∙◌}
use native.Mathlib.Omega.{arith}
use native.Mathlib.Nat.{mul_comm}
use Prim.Native.Nat.{ℕ, ◌+◌, ◌-◌, ◌*◌, ◌/◌, ◌^◌, ◌<◌, ◌≤◌}
use lib.IntN.{ℤ, pos, nat_abs}
use lib.Pow.{pow_mono}
use Rattle.laws.proofs.Num.{Num, arg, lit, add, shl, shr, ones, kept, le_flag}
use Rattle.bc6_colour.proofs.Unquantising.{nonzero, is_zero, le_nat, u_m_zero, u_m_top, u_m_mid}
use Rattle.laws.proofs.Num.{abs_below}
use Rattle.bc6_colour.proofs.unquantize_magnitude.Goals as goal

pub returns-then-m-eq0 : goal.returns-then-m-eq0
returns-then-m-eq0 c = ap pos (sym (u_m_zero c.args.bits (nat_abs c.args.m) (is_zero c.args.m c.requires.2.nonneg c.if-m-eq0.true)))

pub returns-then-top-m : goal.returns-then-top-m
returns-then-top-m c =
    let power : 2 ^ (c.args.bits - 1) ≤ 16384 = pow_mono {j = 14} (omega arith) in
    let m : Num = arg 16385 c.ranges.m (omega (arith, power)) in
    let mask : Num = ones (c.args.bits - 1) (omega arith) in
    ap pos (sym (u_m_top c.args.bits (nat_abs c.args.m)
    (nonzero c.args.m c.requires.2.nonneg c.if-m-eq0.false)
    (le_nat (2 ^ (c.args.bits - 1) - 1) c.args.m c.requires.2.nonneg (le_flag (kept mask tt) m c.if-top-m.true))))

pub returns : goal.returns
returns c =
    let power : 2 ^ (c.args.bits - 1) ≤ 16384 = pow_mono {j = 14} (omega arith) in
    let room : nat_abs c.args.m * 32768 ≤ 536903680 = let h : nat_abs c.args.m < 2 ^ (c.args.bits - 1) + 1 = abs_below c.args.m c.requires.2.nonneg c.requires.2.below in
    omega (arith, power) in
    let m : Num = arg 16385 c.ranges.m (omega (arith, power)) in
    let mask : Num = ones (c.args.bits - 1) (omega arith) in
    let sum : ℤ → Num = λ k. add (shl c.args.m c.requires.2.nonneg 32768 536903680 room tt) (lit k) in
    let n = nat_abs c.args.m in
    (kept (shr (2 ^ (c.args.bits - 1)) (kept (sum (pos 16384)) tt)) tt).is
    ∙ ap (λ (k : ℕ). pos ((k + 16384) / 2 ^ (c.args.bits - 1))) (mul_comm n 32768)
    ∙ ap pos (sym (u_m_mid c.args.bits n
    (nonzero c.args.m c.requires.2.nonneg c.if-m-eq0.false)
    (le_nat (2 ^ (c.args.bits - 1) - 1) c.args.m c.requires.2.nonneg (le_flag (kept mask tt) m c.if-top-m.false))))
