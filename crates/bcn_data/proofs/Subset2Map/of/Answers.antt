-- `Subset2Map::of` meets its contract: the number of a row, taken apart. Assumes nothing.
use mathlib.Core.Path.{◌≡◌, ◌∙◌}
use Prim.Native.Nat.{ℕ, ◌/◌, ◌%◌, ◌<◌}
use native.Mathlib.Omega.{arith}
use Rattle.bcn_spec.specs.Regions.{map_of, fixup_of}
use Rattle.bcn_spec.proofs.Partitions.{rule}
use Rattle.bcn_data.specs.Subsets.{packed_row}
use Rattle.bcn_data.proofs.Arms.{row_is}
use Rattle.bcn_data.proofs.Subset2Map.of.Goals as goal

module _ (partition row : ℕ) (h : partition < 32) (e : row ≡ packed_row partition) where
  low : row % 65536 ≡ map_of partition
  unfolding packed_row
  low = let r = (rule partition h).map_fits in omega (arith, e)

  high : row / 65536 ≡ fixup_of partition
  unfolding packed_row
  high = let r = (rule partition h).map_fits in omega (arith, e)

  small : row < 0x1000000
  small = let r = (rule partition h).fixup_fits in omega (arith, high)

pub unpacked-requires : goal.unpacked-requires
unpacked-requires c = small _ _ c.requires (row_is c.packed_row.ensures)

pub returns : goal.returns
returns c =
    let p = c.requires in
    let e = row_is c.packed_row.ensures in
    c.unpacked.ensures ∙ (λ i. record { subset_indexes = low _ _ p e i; fixup_index_2 = high _ _ p e i })
