-- S-13: how many bits of an index are stored. Assumes nothing.
use Rattle.std.specs.Prelude.{ℕ, ◌-◌, eqb}
use Rattle.laws.specs.Pick.{pick, either}
use Rattle.bc6h_spec.specs.Layout.{two_regions}
use Rattle.bcn_spec.specs.Regions.{fixup_of}
use Rattle.bc6h_spec.specs.Fields.{index_bits}

-- the fix-up pixel of region 1, and pixel 0 where there is one region
unfoldable pub second_fixup : ℕ → ℕ → ℕ
second_fixup mode partition = pick (two_regions mode) (fixup_of partition) 0

-- how many bits of a pixel's index are stored, by the second fix-up pixel
unfoldable pub index_size : ℕ → ℕ → ℕ → ℕ
index_size mode fixup pixel = pick (either (eqb pixel 0) (eqb pixel fixup)) (index_bits mode - 1) (index_bits mode)
