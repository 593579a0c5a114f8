-- S-25: the numbers that a picture's values scale. Assumes nothing.
use Rattle.std.specs.Prelude.{Bool, ℕ, ◌+◌, ◌*◌, ◌/◌, ◌%◌, ℤ, pos, negsuc, get_or}
use Rattle.bc6h_spec.specs.declared.Fields.{Fields}
use Rattle.bc6h_spec.specs.Layout.{precision}
use Rattle.bc6h_spec.specs.Regions.{region_of}
use Rattle.bc6h_spec.specs.Fields.{index_of}
use Rattle.bc6h_spec.specs.Half.{unquantized, interpolated}
use Rattle.bc6h_spec.specs.Picture.{endpoint, weights}

-- the interpolated number of value j
abbrev pub interpolated_at : Bool → Fields → ℕ → ℤ
interpolated_at signed f j =
    let p = precision f.mode in
    let r = region_of f.mode f.partition (j / 3) in
    interpolated (unquantized signed p (endpoint signed f (2 * r) (j % 3))) (unquantized signed p (endpoint signed f (2 * r + 1) (j % 3)))
    (pos (get_or (weights f.mode) (index_of f (j / 3)) 0))

-- −32768
abbrev pub lowest : ℤ
lowest = negsuc 32767
