-- S-9, S-12, S-13: what a block says of its pixels, and what is shown of its bits. Assumes nothing.
use Rattle.std.specs.Prelude.{◌≡◌, Bool, List, [], ◌∷◌, ℕ, ◌/◌, ◌%◌, ◌^◌, ◌<◌, eqb, replicate}
use Rattle.laws.specs.Pick.{pick}
use Rattle.bcn_spec.specs.Regions.{map_of, fixup_of}
use Rattle.bcn_spec.specs.Indices.{index_in}
use Rattle.bc6h_spec.specs.Fields.{mode_in, fields_at}
use Rattle.bc6h_spec.specs.Picture.{picture_as, value_count}
use Rattle.bc6h_spec.specs.Block.{format_number}
use Rattle.bc6_paint.specs.Values.{packed_at}
use Rattle.bc6.specs.declared.Picks.{Picks}

-- S-12: the partition of a mode of two regions
abbrev pub partition_in : ℕ → ℕ
partition_in n = n / 2 ^ 77 % 2 ^ 5

-- S-12, S-13: two regions: the partition's map, and indices of three bits behind 82 bits
pub record Picked (n : ℕ) (r : Picks) : Type 0 where
  pub regions : r.map ≡ map_of (partition_in n)
  pub index : (k : ℕ) → k < 16 → packed_at 3 r.indices k ≡ index_in 3 (0 ∷ fixup_of (partition_in n) ∷ []) (n / 2 ^ 82) k

-- S-13: one region: indices of four bits behind 65 bits
pub record OnePicked (n word : ℕ) : Type 0 where
  pub index : (k : ℕ) → k < 16 → packed_at 4 word k ≡ index_in 4 (0 ∷ []) (n / 2 ^ 65) k

-- S-2: the values of a block, from its bits as one number
unfoldable pub shown_of : Bool → ℕ → List ℕ
shown_of signed n = pick (eqb (mode_in n) 0) (replicate value_count 0) (picture_as signed (fields_at (format_number signed) (mode_in n) n))
