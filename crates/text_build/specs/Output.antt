-- S-101: what the program run_build writes of its wish: the answer, a byte, and then the probe; of a refused wish the answer is all.
-- Assumes nothing.
use Rattle.std.specs.Prelude.{List, [], ℕ, ◌+◌, ◌*◌, ltb, length, get_or, drop}
use Rattle.laws.specs.Pick.{pick}
use Rattle.raw_bytes.specs.Bytes.{low_first}
use Rattle.bcn_spec.specs.Bits.{block_size}
use Rattle.probe_places.specs.Places.{place_size}
use Rattle.probe.specs.Probe.{place_count}
use Rattle.probe_build.specs.Building.{built_of, build_refusal}
use Rattle.text_moves.specs.Output.{moved_output}

-- ---- the wish: the format, a byte; the edge and the first tile number in four bytes each, the low byte first; the blocks

abbrev pub build_head : ℕ
build_head = 9

-- the largest wish whose blocks are taken
abbrev pub build_limit : ℕ
build_limit = build_head + block_size * place_count

-- the largest probe
abbrev pub built_room : ℕ
built_room = place_size * place_count

unfoldable pub edge_in : List ℕ → ℕ
edge_in input = low_first input 1 4

unfoldable pub first_tile_in : List ℕ → ℕ
first_tile_in input = low_first input 5 4

-- S-59, S-101: a wish that has no blocks is not answered.
unfoldable pub build_output : List ℕ → List ℕ
build_output input =
    let blocks = drop build_head input in
    pick (ltb (length input) build_head) []
    (moved_output (build_refusal (length blocks) (get_or input 0 0) (edge_in input) built_room) (built_of blocks (get_or input 0 0) (edge_in input) (first_tile_in input)))
