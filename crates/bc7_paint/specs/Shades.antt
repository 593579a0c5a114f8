-- S-69 to S-71: what a block's bytes are, from its endpoints, its regions and its weights. Assumes nothing.
use Rattle.std.specs.Prelude.{Bool, List, ℕ, ◌+◌, ◌*◌, ◌/◌, ◌%◌, ◌<◌, ◌≤◌, eqb, length, get_or, set}
use Rattle.laws.specs.Pick.{pick}
use Rattle.laws.specs.Bit.{bit}
use Rattle.laws.specs.Ranges.{AllBelow}
use Rattle.bc7_spec.specs.Bytes.{between, turned}

-- S-68: the region of a pixel, from whether it lies in region 1 and whether it lies in region 2
abbrev pub region_by : Bool → Bool → ℕ
region_by one two = pick two 2 (pick one 1 0)

-- the same, from the maps of the two regions: bit k is pixel k's
abbrev pub region_at : ℕ → ℕ → ℕ → ℕ
region_at ones twos k = region_by (eqb (bit ones k) 1) (eqb (bit twos k) 1)

-- S-71: channel c at weight w in region r; channel c of endpoint e is number 4 e + c
unfoldable pub shade_at : List ℕ → ℕ → ℕ → ℕ → ℕ
shade_at ends c r w = between (get_or ends (c + 8 * r) 0) (get_or ends (c + (8 * r + 4)) 0) w

-- S-70: the weight of pixel k's channel c: alpha has weights of its own
abbrev pub weight_at : List ℕ → List ℕ → ℕ → ℕ → ℕ
weight_at colours alphas k c = pick (eqb c 3) (get_or alphas k 0) (get_or colours k 0)

-- S-71: channel c of pixel k, before rotation
unfoldable pub channel_shade : List ℕ → ℕ → ℕ → List ℕ → List ℕ → ℕ → ℕ → ℕ
channel_shade ends ones twos colours alphas k c = shade_at ends c (region_at ones twos k) (weight_at colours alphas k c)

-- byte j
unfoldable pub shade_byte : List ℕ → ℕ → ℕ → ℕ → List ℕ → List ℕ → ℕ → ℕ
shade_byte ends ones twos rotation colours alphas j = channel_shade ends ones twos colours alphas (j / 4) (turned rotation (j % 4))

-- what a painter is given
pub record Paintable (ends colours alphas : List ℕ) (rotation : ℕ) (out : List ℕ) : Type 0 where
  pub bytes : AllBelow 256 ends
  pub colour_weights : AllBelow 65 colours
  pub alpha_weights : AllBelow 65 alphas
  pub turns : rotation < 4
  pub room : 64 ≤ length out

-- what alpha shows after the rotation
abbrev pub turned_to : ℕ → ℕ → ℕ → ℕ → ℕ → ℕ
turned_to rotation r g b a = pick (eqb rotation 3) b (pick (eqb rotation 2) g (pick (eqb rotation 1) r a))

-- byte c of a pixel in a block of one region, from its weight and that of its alpha
unfoldable pub solo_at : List ℕ → ℕ → ℕ → ℕ → ℕ → ℕ
solo_at ends rotation colour alpha c = shade_at ends (turned rotation c) 0 (pick (eqb (turned rotation c) 3) alpha colour)

-- the bytes with g 0 to g 3 for those of pixel k
abbrev pub put : (ℕ → ℕ) → ℕ → List ℕ → List ℕ
put g k l = set (set (set (set l (4 * k) (g 0)) (4 * k + 1) (g 1)) (4 * k + 2) (g 2)) (4 * k + 3) (g 3)
