-- `Subset2Map::row` meets its contract: the first rows are BC6H's; of the others the number is taken apart. Assumes nothing.
use mathlib.Core.Path.{◌≡◌, ◌∙◌, sym, ap}
use Prim.Native.Nat.{◌+◌, ◌-◌}
use native.Mathlib.Omega.{arith}
use Rattle.bcn_data.specs.Subsets.{packed_row_2, later_row}
use Rattle.bcn_data.proofs.Arms.{row_is}
use Rattle.bcn_data.proofs.Rows.{small2, apart2, first_rows}
use Rattle.bcn_data.proofs.Subset2Map.row.Goals as goal

number : (c : goal.After-later_row) → c.later_row.result ≡ packed_row_2 c.args.partition
unfolding later_row
number c =
    let p = c.args.partition in
    let back : p - 32 + 32 ≡ p = omega arith in
    row_is c.later_row.ensures ∙ ap packed_row_2 back

pub returns-then-partition-lt32 : goal.returns-then-partition-lt32
returns-then-partition-lt32 c = c.of.ensures ∙ sym (first_rows _ c.if-partition-lt32.true)

pub unpacked-requires : goal.unpacked-requires
unpacked-requires c = small2 _ _ c.requires (number c)

pub returns : goal.returns
returns c = c.unpacked.ensures ∙ apart2 _ _ c.requires (number c.before)
