-- S-17 to S-27: the picture that a field record shows. Assumes nothing.
use Rattle.std.specs.Prelude.{Bool, List, ℕ, ◌+◌, ◌*◌, ◌/◌, ◌%◌, eqb, ℤ, pos, get_or}
use Rattle.laws.specs.Pick.{pick, either}
use Rattle.laws.specs.Made.{made}
use Rattle.bc6h_spec.specs.declared.Fields.{Fields}
use Rattle.bcn_spec.specs.Weights.{weights8, weights16}
use Rattle.bc6h_spec.specs.Layout.{two_regions, precision, own_width, transformed}
use Rattle.bc6h_spec.specs.Regions.{region_of}
use Rattle.bc6h_spec.specs.Fields.{stored, index_of}
use Rattle.bc6h_spec.specs.Half.{sign_extend, transform, unquantized, interpolated, finished}

-- S-17: in signed format the first endpoint is sign-extended from p bits.
unfoldable pub first_end : Bool → ℕ → ℕ → ℤ
first_end signed p n = pick signed (sign_extend p n) (pos n)

-- S-17: the others are sign-extended from their own widths in signed format, and in a transformed mode.
unfoldable pub delta : Bool → Bool → ℕ → ℕ → ℤ
delta signed moved w n = pick (either signed moved) (sign_extend w n) (pos n)

-- S-18: in a transformed mode the first endpoint is added.
unfoldable pub other_end : Bool → Bool → ℕ → ℕ → ℤ → ℕ → ℤ
other_end signed moved p w first n = pick moved (transform signed p first (delta signed moved w n)) (delta signed moved w n)

-- S-17, S-18: channel c of endpoint e, after the transform
unfoldable pub endpoint : Bool → Fields → ℕ → ℕ → ℤ
endpoint signed f e c =
    let p = precision f.mode in
    let first = first_end signed p (stored f 0 c) in
    pick (eqb e 0) first (other_end signed (transformed f.mode) p (own_width f.mode c) first (stored f e c))

-- S-22: eight weights in two regions, sixteen in one.
abbrev pub weights : ℕ → List ℕ
weights mode = pick (two_regions mode) weights8 weights16

-- S-19 to S-24: unquantise both ends, interpolate, scale
unfoldable pub between : Bool → ℕ → ℤ → ℤ → ℕ → ℕ
between signed p a b w = finished signed (interpolated (unquantized signed p a) (unquantized signed p b) (pos w))

-- S-21: palette value i of channel c in region r, whose two ends are endpoints 2r and 2r + 1
unfoldable pub palette : Bool → Fields → ℕ → ℕ → ℕ → ℕ
palette signed f r c i =
    between signed (precision f.mode) (endpoint signed f (2 * r) c) (endpoint signed f (2 * r + 1) c) (get_or (weights f.mode) i 0)

-- S-27: value j is channel j mod 3 of pixel j div 3: the palette value of the pixel's region at the pixel's index
unfoldable pub value : Bool → Fields → ℕ → ℕ
value signed f j = palette signed f (region_of f.mode f.partition (j / 3)) (j % 3) (index_of f (j / 3))

-- S-27: the values of a picture
abbrev pub value_count : ℕ
value_count = 48

-- S-27: pixel 0's red, green and blue, then pixel 1's, and so on.
unfoldable pub picture_as : Bool → Fields → List ℕ
picture_as signed f = made (value signed f) value_count

-- S-30: format 0 is unsigned, format 1 is signed.
abbrev pub is_signed : ℕ → Bool
is_signed format = eqb format 1

-- S-35: the picture that a record shows, in the format that it holds
unfoldable pub picture : Fields → List ℕ
picture f = picture_as (is_signed f.format) f
