-- S-84: palettes as the code has them: the picture of a block whose indices run through them. Assumes nothing.
use Rattle.std.specs.Prelude.{Bool, List, [], ◌∷◌, ◌++◌, ℕ, ◌+◌, ◌-◌, ◌*◌, ◌%◌, get_or, take}
use Rattle.laws.specs.Pick.{pick, both}
use Rattle.laws.specs.Search.{some, distinct}
use Rattle.bc6h_spec.specs.declared.Fields.{Fields}
use Rattle.bc6h_spec.specs.Layout.{two_regions}
use Rattle.store_copies.specs.Trust.{reaches}

-- the 65 bits of a one-region block before its indices, and then the indices 0 to 15, pixel 0's stored with one bit fewer
unfoldable pub ramped_one : List ℕ → List ℕ
ramped_one block = take 8 block ++ ((get_or block 8 0 % 2 + 0x10) ∷ 0x32 ∷ 0x54 ∷ 0x76 ∷ 0x98 ∷ 0xBA ∷ 0xDC ∷ 0xFE ∷ [])

-- the 77 bits of a two-region block before its partition, then partition 13, whose pixels 0 to 7 are region 0 and 8 to 15 region 1,
-- and the indices 0 to 7 and 7 to 0; those of pixels 0 and 15 are stored with one bit fewer
unfoldable pub ramped_two : List ℕ → List ℕ
ramped_two block = take 9 block ++ ((get_or block 9 0 % 32 + 0xA0) ∷ 0x11 ∷ 0x8D ∷ 0xF5 ∷ 0xEF ∷ 0x72 ∷ 0x0A ∷ [])

unfoldable pub ramped : Bool → List ℕ → List ℕ
ramped two block = pick two (ramped_two block) (ramped_one block)

-- entry i of a channel, in the 48 values of palettes, of the palette that starts at pixel `first`
abbrev pub ramp_entry : List ℕ → ℕ → ℕ → ℕ → ℕ
ramp_entry palettes first channel i = get_or palettes (3 * (first + i) + channel) 0

unfoldable pub entries_differ : List ℕ → ℕ → ℕ → ℕ → Bool
entries_differ palettes first count channel = distinct (ramp_entry palettes first channel) count

-- region r's indices reach both ends of its palette of `count` entries, which starts at pixel `first`, and a channel of it differs
unfoldable pub region_passes : Fields → List ℕ → ℕ → ℕ → ℕ → Bool
region_passes f palettes r first count =
    both (reaches f r 0) (both (reaches f r (count - 1)) (some (entries_differ palettes first count) 3))

unfoldable pub all_pass : Fields → List ℕ → Bool
all_pass f palettes =
    pick (two_regions f.mode) (both (region_passes f palettes 0 0 8) (region_passes f palettes 1 8 8)) (region_passes f palettes 0 0 16)
