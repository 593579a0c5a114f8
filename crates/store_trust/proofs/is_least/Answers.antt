-- `store_trust::is_least` meets its contract. Assumes nothing.
use native.Mathlib.Omega.{arith}
use mathlib.Core.Path.{refl, sym, ◌∙◌}
use Prim.Native.Nat.{◌-◌, ◌^◌, ◌≤◌}
use lib.Pow.{pow_mono}
use Rattle.laws.proofs.Num.{Num, arg, ones, neg, need, kept, lt_flag}
use Rattle.store_trust.proofs.Lowest.{below_top}
use Rattle.store_trust.proofs.is_least.Goals as goal

pub overflow_sub-top-2 : goal.overflow_sub-top-2
overflow_sub-top-2 c =
    let top : Num = ones (c.args.bits - 1) (omega arith) in
    need top tt

pub overflow_sub-result : goal.overflow_sub-result
overflow_sub-result c =
    let top : Num = ones (c.args.bits - 1) (omega arith) in
    need (neg (kept top tt)) tt

pub returns : goal.returns
returns c =
    let power : 2 ^ (c.args.bits - 1) ≤ 32768 = pow_mono {j = 15} (omega arith) in
    let x : Num = arg 32768 c.ranges.x (omega (arith, power, c.requires.2.inside)) in
    let top : Num = ones (c.args.bits - 1) (omega arith) in
    sym (lt_flag x (kept (neg (kept top tt)) tt) refl) ∙ below_top c.args.bits c.args.x c.requires.2
