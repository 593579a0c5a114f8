-- S-59: a probe built of the blocks of its six faces. Assumes nothing.
use Rattle.std.specs.Prelude.{◌≡◌, ℕ, zero, suc, ◌+◌, ◌*◌, ◌/◌, ◌%◌, ◌^◌, Bool, not, List, [], ◌∷◌, ◌++◌, length, ◌==◌, nat_lt, slice_index, refl}
use Rattle.laws.specs.Checks.{first_met, left_by}
use Rattle.laws.specs.Made.{made, join}
use Rattle.bcn_spec.specs.Answers.{done, bad_format, short_output, blocks_misfit, bad_edge}
use Rattle.bcn_spec.specs.Bits.{block_size}
use Rattle.probe_places.specs.declared.Place.{Place}
use Rattle.probe_places.specs.Places.{place_size}
use Rattle.probe.specs.Probe.{place_of, edge_fits}
use Rattle.probe_build.specs.declared.Built.{Built}

-- S-59: a record for each block of six faces.
unfoldable pub record_count : ℕ → ℕ
record_count edge = 6 * edge * edge

-- ---- record n

-- S-59: the records go face by face and row by row.
unfoldable pub place_for : ℕ → ℕ → Place
place_for edge n = place_of (n / (edge * edge)) (n % edge) (n % (edge * edge) / edge)

-- S-59: the tile numbers rise from the first one, and wrap at 2^32.
abbrev pub tile_for : ℕ → ℕ → ℕ
tile_for first n = (first + n) % 2 ^ 32

-- S-53: tile number, format, face, column, row and six zeros, each number low byte first.
unfoldable pub record_head : ℕ → ℕ → Place → List ℕ
record_head tile format p =
    tile % 0x100 ∷ tile / 0x100 % 0x100 ∷ tile / 0x10000 % 0x100 ∷ tile / 0x1000000 % 0x100 ∷ format ∷ p.face ∷
    p.column % 0x100 ∷ p.column / 0x100 % 0x100 ∷ p.row % 0x100 ∷ p.row / 0x100 % 0x100 ∷
    0 ∷ 0 ∷ 0 ∷ 0 ∷ 0 ∷ 0 ∷ []

-- S-59: the sixteen bytes of block n
unfoldable pub block_byte : List ℕ → ℕ → ℕ → ℕ
block_byte blocks n k = slice_index blocks (block_size * n + k)

abbrev pub bytes_of_block : List ℕ → ℕ → List ℕ
bytes_of_block blocks n = made (block_byte blocks n) block_size

-- S-53, S-59: the head, and then the block.
unfoldable pub record_with : List ℕ → ℕ → ℕ → ℕ → Place → List ℕ
record_with blocks n tile format p = record_head tile format p ++ bytes_of_block blocks n

unfoldable pub built_record : List ℕ → ℕ → ℕ → ℕ → ℕ → List ℕ
built_record blocks format edge first n = record_with blocks n (tile_for first n) format (place_for edge n)

-- S-59: the store: its records from the first
unfoldable pub built_of : List ℕ → ℕ → ℕ → ℕ → List ℕ
built_of blocks format edge first = join (made (built_record blocks format edge first) (record_count edge))

-- ---- the checks

-- S-59: 19, 1, 15, 3: the edge, the format, the block bytes, the room.
abbrev pub build_checks : ℕ → ℕ → ℕ → ℕ → List (Bool × ℕ)
build_checks size format edge room =
    (not (edge_fits edge), bad_edge) ∷ (nat_lt 1 format, bad_format) ∷
    (not (size == block_size * record_count edge), blocks_misfit) ∷ (nat_lt room (place_size * record_count edge), short_output) ∷ []

unfoldable pub build_refusal : ℕ → ℕ → ℕ → ℕ → ℕ
build_refusal size format edge room = first_met (build_checks size format edge room)

-- ---- the call

-- S-59: the number, and how many records were written: none on a refusal
abbrev pub built_at : ℕ → ℕ → Built
built_at zero count = record { answer = done; records = count }
built_at (suc number) count = record { answer = suc number; records = 0 }

-- S-30, S-59: the statement of the call: its answer r, and the lent bytes `after`, whose rest stays.
pub record BuiltTo (blocks : List ℕ) (format edge first : ℕ) (lent : List ℕ) (r : Built) (after : List ℕ) : Type 0 where
  pub answers : r ≡ built_at (build_refusal (length blocks) format edge (length lent)) (record_count edge)
  pub holds : after ≡ left_by (build_refusal (length blocks) format edge (length lent)) (built_of blocks format edge first) lent

-- ---- examples

-- the order of the checks
two_blocks : build_refusal 192 1 2 1000 ≡ blocks_misfit
unfolding build_refusal record_count
two_blocks = refl

edge_before_format : build_refusal 0 2 17 0 ≡ bad_edge
unfolding build_refusal record_count
edge_before_format = refl

format_before_blocks : build_refusal 0 2 1 0 ≡ bad_format
unfolding build_refusal record_count
format_before_blocks = refl

blocks_before_room : build_refusal 95 1 1 0 ≡ blocks_misfit
unfolding build_refusal record_count
blocks_before_room = refl

room_last : build_refusal 96 1 1 191 ≡ short_output
unfolding build_refusal record_count
room_last = refl

built : build_refusal 96 1 1 192 ≡ done
unfolding build_refusal record_count
built = refl

-- record 23 of an edge of 2 is the last of face 5; record 5 is column 1 of row 0 of face 1
last_of_five : place_for 2 23 ≡ place_of 5 1 1
unfolding place_for
last_of_five = refl

first_row : place_for 2 5 ≡ place_of 1 1 0
unfolding place_for
first_row = refl

-- the tile number wraps
wrapped : record_head (tile_for 0xFFFFFFFF 5) 1 (place_of 1 1 0) ≡ 4 ∷ 0 ∷ 0 ∷ 0 ∷ 1 ∷ 1 ∷ 1 ∷ 0 ∷ 0 ∷ 0 ∷ 0 ∷ 0 ∷ 0 ∷ 0 ∷ 0 ∷ 0 ∷ []
unfolding record_head
wrapped = refl
