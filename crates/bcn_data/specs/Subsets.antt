-- S-12, S-68: the maps and the fix-up pixels of a partition, as one value. Assumes nothing.
use Rattle.std.specs.Prelude.{◌≡◌, List, [], ◌∷◌, ℕ, ◌+◌, ◌*◌, T, eqb, get_or}
use Rattle.laws.specs.Pick.{pick}
use Rattle.laws.specs.Bit.{of_bits}
use Rattle.bcn_spec.specs.Regions.{regions_in, map_of, fixup_of}
use Rattle.bcn_spec.specs.Rows.{row_of, fixups_of}
use Rattle.bcn_data.specs.declared.Subset2Map.{Subset2Map}
use Rattle.bcn_data.specs.declared.Subset3Map.{Subset3Map}

-- BC6H: one of the first 32 rows
abbrev pub subset2 : ℕ → Subset2Map
subset2 partition = record { subset_indexes = map_of partition; fixup_index_2 = fixup_of partition }

-- the pixels of region r, as bits
abbrev pub region_bits : ℕ → List ℕ → List ℕ
region_bits r [] = []
region_bits r (region ∷ regions) = pick (eqb region r) 1 0 ∷ region_bits r regions

-- the map of region r: bit k is pixel k's
abbrev pub mask_of : ℕ → ℕ → ℕ → ℕ
mask_of r regions partition = of_bits (region_bits r (regions_in (row_of regions partition)))

-- the fix-up pixel at a place of the list, whose first is pixel 0
abbrev pub fixup_at : ℕ → ℕ → ℕ → ℕ
fixup_at place regions partition = get_or (fixups_of regions partition) place 0

-- a row of two regions, and a row of three
unfoldable pub row2 : ℕ → Subset2Map
row2 partition = record { subset_indexes = mask_of 1 2 partition; fixup_index_2 = fixup_at 1 2 partition }

unfoldable pub row3 : ℕ → Subset3Map
row3 partition =
    record {
      ones = mask_of 1 3 partition;
      twos = mask_of 2 3 partition;
      fixup_index_2 = fixup_at 1 3 partition;
      fixup_index_3 = fixup_at 2 3 partition;
    }

-- the same as one number: BC6H's rows, rows 32 to 63 of two regions, and the rows of three
unfoldable pub packed_row : ℕ → ℕ
packed_row partition = map_of partition + 65536 * fixup_of partition

abbrev pub packed_row_2 : ℕ → ℕ
packed_row_2 partition = mask_of 1 2 partition + 65536 * fixup_at 1 2 partition

unfoldable pub later_row : ℕ → ℕ
later_row row = packed_row_2 (row + 32)

unfoldable pub three_row : ℕ → ℕ
three_row partition = mask_of 1 3 partition + 65536 * (mask_of 2 3 partition + 65536 * (fixup_at 1 3 partition + 16 * fixup_at 2 3 partition))

-- r is the number of the row that a partition has, by the number of an arm
pub record RowIs (row : ℕ → ℕ) (partition r : ℕ) : Type 0 where
  pub number : ℕ
  pub at : partition ≡ number
  pub is : T (eqb (row number) r)
