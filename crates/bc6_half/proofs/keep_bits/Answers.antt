-- `bc6_half::keep_bits` meets its contract. Assumes nothing.
use mathlib.Core.Path.{ap, ◌∙◌}
use lib.Bits.{bit_and}
use lib.IntN.{ℤ}
use mir.Syntax.{w32}
use mir.Val.{to_z, of_z}
use Rattle.laws.proofs.Num.{Num, ones, need}
use Rattle.bc6_half.proofs.Laws.{masked}
use Rattle.bc6_half.proofs.keep_bits.Goals as goal

pub overflow_sub-result : goal.overflow_sub-result
overflow_sub-result c =
    let mask : Num = ones c.args.bits c.requires in
    need mask tt

pub returns : goal.returns
returns c =
    let mask : Num = ones c.args.bits c.requires in
    ap (λ (z : ℤ). to_z w32 (bit_and (of_z w32 c.args.x) (of_z w32 z))) mask.is
    ∙ masked c.args.bits c.args.x c.requires c.ranges.x
