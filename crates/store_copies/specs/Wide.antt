-- S-4, S-5: demand 3 on two-region modes and on signed blocks, in words. Assumes nothing.
use Rattle.std.specs.Prelude.{◌≡◌, ◌⊎◌, ◌≢◌, Bool, true, List, ℕ, ◌-◌, ◌*◌, ◌^◌, ◌≤◌, ◌<◌, pos, neg_ℤ}
use Rattle.laws.specs.Pick.{pick}
use Rattle.bc6h_spec.specs.declared.Fields.{Fields}
use Rattle.bcn_spec.specs.Bits.{IsBlock}
use Rattle.bc6h_spec.specs.Layout.{two_regions, precision}
use Rattle.bc6h_spec.specs.Regions.{region_of}
use Rattle.bc6h_spec.specs.Fields.{mode_of, fields_of, index_of}
use Rattle.bc6h_spec.specs.Picture.{is_signed, endpoint, palette}
use Rattle.bc6h_spec.specs.Block.{pixels_of}

-- how many regions a mode has, and the last index of its palettes
abbrev pub regions : ℕ → ℕ
regions mode = pick (two_regions mode) 2 1

abbrev pub last_index : ℕ → ℕ
last_index mode = pick (two_regions mode) 7 15

-- region r has a pixel at index n
pub record Reaches (f : Fields) (r n : ℕ) : Type 0 where
  pub pixel : ℕ
  pub is_pixel : pixel < 16
  pub in_region : region_of f.mode f.partition pixel ≡ r
  pub at_index : index_of f pixel ≡ n

-- S-4: region r has a channel whose palette values all differ: eight, or sixteen where there is one region.
pub record Differs (signed : Bool) (f : Fields) (r : ℕ) : Type 0 where
  pub channel : ℕ
  pub is_channel : channel < 3
  pub all_differ : (i j : ℕ) → i ≤ last_index f.mode → j ≤ last_index f.mode → palette signed f r channel i ≡ palette signed f r channel j → i ≡ j

-- each region has a pixel at index n
abbrev pub AllReach : Fields → ℕ → Type 0
AllReach f n = (r : ℕ) → r < regions f.mode → Reaches f r n

-- for each region one of two blocks has such a channel
abbrev pub RegionsDiffer : ℕ → List ℕ → ℕ → List ℕ → Type 0
RegionsDiffer format x other y =
    (r : ℕ) → r < regions (mode_of x) → Differs (is_signed format) (fields_of format x) r ⊎ Differs (is_signed other) (fields_of other y) r

-- S-5: no endpoint of a signed block is −2^(p−1)
abbrev pub NoLeast : Bool → Fields → Type 0
NoLeast signed f = signed ≡ true → (e c : ℕ) → e < 2 * regions f.mode → c < 3
    → endpoint signed f e c ≢ neg_ℤ (pos (2 ^ (precision f.mode - 1)))

-- S-4, S-5: what is asked of the fields of each block
pub record Spanning (signed : Bool) (f : Fields) : Type 0 where
  -- each region has a pixel at index 0 and one at the last index, which is 7, or 15 where there is one region
  pub lowest : AllReach f 0
  pub highest : AllReach f (last_index f.mode)
  -- no endpoint, after the transform, is −2^(p−1)
  pub not_least : NoLeast signed f

-- what is asked of each block
pub record Suited (format : ℕ) (block : List ℕ) : Type 0 where
  pub known_format : format ≤ 1
  pub bytes : IsBlock block
  pub spanning : Spanning (is_signed format) (fields_of format block)
  -- a mode, which a reserved block has not; mode 14 is left out
  pub mode_from : 1 ≤ mode_of block
  pub mode_to : mode_of block ≤ 13

-- what is asked of the two
pub record Matched (format : ℕ) (x : List ℕ) (other : ℕ) (y : List ℕ) : Type 0 where
  -- one mode and one partition
  pub one_mode : mode_of x ≡ mode_of y
  pub one_partition : (fields_of format x).partition ≡ (fields_of other y).partition
  -- for each region at least one of the two blocks has a channel whose palette values differ
  pub differ : RegionsDiffer format x other y
  -- never one block of each format
  pub one_format : format ≡ other

-- The theorem, whole: two such blocks that show the same 48 values are the same sixteen bytes.
abbrev pub Copies : Type 0
Copies = (format other : ℕ) (x y : List ℕ) → Suited format x → Suited other y → Matched format x other y
    → pixels_of (is_signed format) x ≡ pixels_of (is_signed other) y → x ≡ y
