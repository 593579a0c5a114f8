-- S-84: which blocks a program may trust: those that meet the theorem's premises by themselves. Two trusted blocks of one format, mode and partition
-- meet the premises as a pair. A pair may meet them with one trusted block alone, since one channel in one of the two is enough for a region; but
-- where such a pair shows one picture, both are trusted (proofs/Trust), so asking trust of both loses no copy. Assumes nothing.
use Rattle.std.specs.Prelude.{Bool, true, false, not, List, ℕ, suc, ◌-◌, ◌*◌, ◌^◌, ◌<◌, eqb, ltb, leb, ℤ, pos, negsuc, length}
use Rattle.laws.specs.Pick.{both}
use Rattle.laws.specs.Every.{below, every}
use Rattle.laws.specs.Search.{some, distinct}
use Rattle.bc6h_spec.specs.declared.Fields.{Fields}
use Rattle.bcn_spec.specs.Bits.{block_size}
use Rattle.bc6h_spec.specs.Layout.{precision}
use Rattle.bc6h_spec.specs.Regions.{region_of}
use Rattle.bc6h_spec.specs.Fields.{mode_of, fields_of, index_of}
use Rattle.bc6h_spec.specs.Picture.{is_signed, endpoint, palette}
use Rattle.store_copies.specs.Wide.{regions, last_index, Differs, Suited}

-- S-84: a block that meets the premises by itself, in words.
pub record Trusted (format : ℕ) (block : List ℕ) : Type 0 where
  pub suited : Suited format block
  pub differs : (r : ℕ) → r < regions (mode_of block) → Differs (is_signed format) (fields_of format block) r

-- S-84: the same as a test that computes, premise by premise.
abbrev pub is_block : List ℕ → Bool
is_block block = both (eqb (length block) block_size) (every (λ byte. ltb byte 256) block)

abbrev pub mode_covered : ℕ → Bool
mode_covered mode = both (leb 1 mode) (leb mode 13)

-- pixel k lies in region r and has the index n
abbrev pub indexed_at : Fields → ℕ → ℕ → ℕ → Bool
indexed_at f r n k = both (eqb (region_of f.mode f.partition k) r) (eqb (index_of f k) n)

unfoldable pub reaches : Fields → ℕ → ℕ → Bool
reaches f r n = some (indexed_at f r n) 16

unfoldable pub channel_differs : Bool → Fields → ℕ → ℕ → Bool
channel_differs signed f r channel = distinct (palette signed f r channel) (suc (last_index f.mode))

unfoldable pub differs : Bool → Fields → ℕ → Bool
differs signed f r = some (channel_differs signed f r) 3

-- z is −2^(p−1)
abbrev pub is_least : ℕ → ℤ → Bool
is_least p (pos n) = false
is_least p (negsuc n) = eqb (suc n) (2 ^ (p - 1))

-- endpoint e has a channel at −2^(p−1)
unfoldable pub least_end : Fields → ℕ → Bool
least_end f e = some (λ c. is_least (precision f.mode) (endpoint true f e c)) 3

unfoldable pub has_least : Fields → Bool
has_least f = some (least_end f) (2 * regions f.mode)

-- region r reaches both ends of its palette, and has a channel whose palette values differ
unfoldable pub region_trusted : Bool → Fields → ℕ → Bool
region_trusted signed f r = both (reaches f r 0) (both (reaches f r (last_index f.mode)) (differs signed f r))

unfoldable pub fields_trusted : Bool → Fields → Bool
fields_trusted signed f = both (not (both signed (has_least f))) (below (region_trusted signed f) (regions f.mode))

unfoldable pub trusted : ℕ → List ℕ → Bool
trusted format block =
    both (leb format 1)
    (both (is_block block)
    (both (mode_covered (mode_of block))
    (fields_trusted (is_signed format) (fields_of format block))))
