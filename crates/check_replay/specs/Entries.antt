-- S-2, S-74: the list of the Rust decoder's answers, and when ours agree with it. Assumes nothing.
use Rattle.std.specs.Prelude.{Bool, List, ℕ, zero, suc, ◌+◌, ◌*◌, eqb, length, get_or, take, drop, replicate}
use Rattle.laws.specs.Pick.{pick, both}
use Rattle.laws.specs.Every.{same}
use Rattle.laws.specs.Made.{made}
use Rattle.raw_bytes.specs.Bytes.{low_first}
use Rattle.bcn_spec.specs.Bits.{block_size}
use Rattle.bc6h_spec.specs.Picture.{value_count}
use Rattle.bc6.specs.Call.{refusal_of, answer_at, values_at}

-- an entry: a format byte, a block, and what is answered to them: a number, a mode, the count of
-- minus infinities and 48 values of two bytes each
abbrev pub replay_size : ℕ
replay_size = 117

abbrev pub entry_format : List ℕ → ℕ
entry_format entry = get_or entry 0 0

unfoldable pub entry_block : List ℕ → List ℕ
entry_block entry = take block_size (drop 1 entry)

-- value k, low byte first, of the bytes that hold the values
unfoldable pub entry_value : List ℕ → ℕ → ℕ
entry_value bytes k = low_first bytes (2 * k) 2

unfoldable pub values_in : List ℕ → List ℕ
values_in bytes = made (entry_value bytes) value_count

-- the count of minus infinities
unfoldable pub infinite_in : List ℕ → ℕ
infinite_in entry = low_first entry 19 2

-- what our call answers to an entry's block: room for 48 values, all of them zero before
abbrev pub number_for : List ℕ → ℕ
number_for entry = refusal_of (entry_format entry) (length (entry_block entry)) value_count

abbrev pub values_for : List ℕ → List ℕ
values_for entry = values_at (number_for entry) (entry_block entry) (entry_format entry) (replicate value_count 0)

-- our number, mode, count and values are the entry's
unfoldable pub agrees : List ℕ → Bool
agrees entry =
    both (eqb (answer_at (number_for entry) (entry_block entry) (entry_format entry)).answer (get_or entry 17 0))
    (both (eqb (answer_at (number_for entry) (entry_block entry) (entry_format entry)).mode (get_or entry 18 0))
    (both (eqb (answer_at (number_for entry) (entry_block entry) (entry_format entry)).infinite (infinite_in entry))
    (same (values_for entry) (values_in (take 96 (drop 21 entry))))))

-- 1 where entry n agrees, else 0
unfoldable pub count_at : List ℕ → ℕ → ℕ
count_at list n = pick (agrees (take replay_size (drop (n * replay_size) list))) 1 0

-- how many of the first n entries agree
unfoldable pub agreeing : List ℕ → ℕ → ℕ
agreeing list zero = 0
agreeing list (suc n) = agreeing list n + count_at list n
