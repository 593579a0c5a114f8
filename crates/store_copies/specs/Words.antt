-- S-3: Demand 3 in words: two blocks of one mode that show the same picture are the same sixteen bytes. Assumes nothing.
use Rattle.std.specs.Prelude.{◌≡◌, ◌⊎◌, Bool, false, List, ℕ, ◌≤◌, ◌<◌}
use Rattle.bcn_spec.specs.Bits.{IsBlock}
use Rattle.bc6h_spec.specs.Fields.{mode_of, fields_of, index_of}
use Rattle.bc6h_spec.specs.Picture.{palette}
use Rattle.bc6h_spec.specs.Block.{fields_in, pixels_of}

-- S-3: the block has a pixel at index n.
pub record PixelAt (block : List ℕ) (n : ℕ) : Type 0 where
  pub pixel : ℕ
  pub is_pixel : pixel < 16
  pub at_index : index_of (fields_of 0 block) pixel ≡ n

-- the palette value of a channel at index i, the scaled pattern; a block of one region has region 0 alone
abbrev pub palette_value : Bool → List ℕ → ℕ → ℕ → ℕ
palette_value signed block channel i = palette signed (fields_in signed block) 0 channel i

-- S-3: the block has a channel whose sixteen palette values all differ.
pub record ChannelDiffers (signed : Bool) (block : List ℕ) : Type 0 where
  pub channel : ℕ
  pub is_channel : channel < 3
  pub all_differ : (i j : ℕ) → i < 16 → j < 16 → palette_value signed block channel i ≡ palette_value signed block channel j → i ≡ j

-- S-3: what is asked of each block: sixteen bytes, mode 11, 12 or 13, a pixel at index 0 and one at index 15.
pub record Eligible (block : List ℕ) : Type 0 where
  pub bytes : IsBlock block
  pub mode_from : 11 ≤ mode_of block
  pub mode_to : mode_of block ≤ 13
  pub lowest : PixelAt block 0
  pub highest : PixelAt block 15

-- S-3: demand 3, whole
abbrev pub Demand3 : Type 0
Demand3 = (x y : List ℕ) → Eligible x → Eligible y → mode_of x ≡ mode_of y → ChannelDiffers false x ⊎ ChannelDiffers false y
    → pixels_of false x ≡ pixels_of false y → x ≡ y
