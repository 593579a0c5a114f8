-- S-21 to S-27: the values of a block, worked out of its endpoints and its pixels' indices. Assumes nothing.
use Rattle.std.specs.Prelude.{Bool, List, ◌++◌, ◌≡◌, ℕ, ◌+◌, ◌*◌, ◌/◌, ◌%◌, ◌^◌, ◌≤◌, eqb, ℤ, pos, length, get_or, set, drop}
use Rattle.std.specs.Int.Bits.{bit_and, bit_or, bit_xor}
use Rattle.laws.specs.Pick.{pick}
use Rattle.laws.specs.Bit.{bit}
use Rattle.laws.specs.Made.{count_of}
use Rattle.bc6h_spec.specs.Half.{minus_infinity, interpolated, finished}
use Rattle.bc6_half.specs.Halves.{weights_of, signed_number}
use Rattle.bc6_paint.specs.declared.Turn.{Turn}
use Rattle.bc6_endpoints.specs.Ends.{held_at}

-- ---- what a pixel has: whether it lies in region 1, and its weight

-- S-13, S-22: number k of those in a word, of so many bits each
abbrev pub packed_at : ℕ → ℕ → ℕ → ℕ
packed_at bits word k = word / 2 ^ (bits * k) % 2 ^ bits

-- S-12: by the map of the regions, which is 0 for a block of one
abbrev pub in_second : ℕ → ℕ → Bool
in_second map k = eqb (bit map k) 1

-- S-22: by an index of so many bits
abbrev pub weight_in : ℕ → ℕ → ℕ → ℕ
weight_in bits word k = get_or (weights_of bits) (packed_at bits word k) 0

-- S-12: a region as a mask of 16 bits
abbrev pub region_mask : Bool → ℕ
region_mask second = pick second 0xFFFF 0

-- S-12, S-22: pixels k and 8 + k
pub record TurnOf (second : ℕ → Bool) (weight : ℕ → ℕ) (k : ℕ) (t : Turn) : Type 0 where
  pub region : t.second ≡ region_mask (second k)
  pub region8 : t.second8 ≡ region_mask (second (8 + k))
  pub weighs : t.w ≡ weight k
  pub weighs8 : t.w8 ≡ weight (8 + k)
  pub most : t.w ≤ 64
  pub most8 : t.w8 ≤ 64

-- ---- between two ends, each 16 bits

-- S-21: the number at weight w
unfoldable pub point_of : Bool → ℕ → ℕ → ℕ → ℤ
point_of signed a b w = interpolated (signed_number signed a) (signed_number signed b) (pos w)

-- S-23, S-24: its pattern
unfoldable pub shade_of : Bool → ℕ → ℕ → ℕ → ℕ
shade_of signed a b w = finished signed (point_of signed a b w)

-- ---- a block's values

-- S-27: value j: between endpoints 0 and 1 in region 0, between 2 and 3 in region 1
unfoldable pub painted_value : Bool → (ℕ → ℕ → ℕ) → (ℕ → Bool) → (ℕ → ℕ) → ℕ → ℕ
painted_value signed ends second weight j =
    let t = second (j / 3) in
    let c = j % 3 in
    shade_of signed (pick t (ends 2 c) (ends 0 c)) (pick t (ends 3 c) (ends 1 c)) (weight (j / 3))

-- by the map of its regions, and its indices of so many bits
abbrev pub block_value : Bool → ℕ → (ℕ → ℕ → ℕ) → ℕ → ℕ → ℕ → ℕ
block_value signed bits ends map word = painted_value signed ends (in_second map) (weight_in bits word)

-- ---- two values are stored, one 24 behind the other

-- S-12: of two numbers the bits that the mask lacks, and those that it has
abbrev pub selected : ℕ → ℕ → ℕ → ℕ
selected mask a c = bit_or (bit_and a (bit_xor mask 0xFFFF)) (bit_and c mask)

-- S-21, S-23, S-24: between ends of a channel: of 0 and 2, and of 1 and 3, those that the mask selects
unfoldable pub shade_in : Bool → List ℤ → ℕ → ℕ → ℕ
shade_in signed ends mask w =
    shade_of signed (selected mask (held_at ends 0) (held_at ends 2)) (selected mask (held_at ends 1) (held_at ends 3)) w

abbrev pub pair_painted : Bool → Turn → List ℤ → ℕ → List ℕ → List ℕ
pair_painted signed t ends at out = set (set out at (shade_in signed ends t.second t.w)) (at + 24) (shade_in signed ends t.second8 t.w8)

-- S-26: 1 for minus infinity
abbrev pub counted : ℕ → ℕ
counted value = pick (eqb value minus_infinity) 1 0

-- the two, and how many of them are minus infinity
pub record PairPainted (signed : Bool) (t : Turn) (ends : List ℤ) (at : ℕ) (out : List ℕ) (infinite : ℕ) (after : List ℕ) : Type 0 where
  pub holds : after ≡ pair_painted signed t ends at out
  pub long : length after ≡ length out
  pub counts : infinite ≡ counted (shade_in signed ends t.second t.w) + counted (shade_in signed ends t.second8 t.w8)
  pub few : infinite ≤ 2

-- ---- what is written

-- S-26, S-27: the values are written, and the number that comes back is how many of them are minus infinity
pub record PaintedAs (values out : List ℕ) (infinite : ℕ) (after : List ℕ) : Type 0 where
  pub holds : after ≡ values ++ drop 48 out
  pub counts : infinite ≡ count_of minus_infinity values

-- S-27: the values are written, and those of a block of one region, whose indices have four bits, are counted so
pub record BlockPainted (bits : ℕ) (values out : List ℕ) (infinite : ℕ) (after : List ℕ) : Type 0 where
  pub holds : after ≡ values ++ drop 48 out
  pub counts : bits ≡ 4 → infinite ≡ count_of minus_infinity values
