-- S-66: what `bc7_blocks_pixels` answers, and what the lent bytes then are. Assumes nothing.
use Rattle.std.specs.Prelude.{◌≡◌, not, List, [], ◌∷◌, ◌++◌, ℕ, zero, suc, ◌*◌, ◌/◌, ◌%◌, eqb, ltb, length, drop, Result, Ok, Err}
use Rattle.laws.specs.Checks.{first_met, ifDone}
use Rattle.laws.specs.Made.{made, join}
use Rattle.bcn_spec.specs.Answers.{done, short_output, uneven_blocks}
use Rattle.bcn_spec.specs.Bits.{block_size, blocks_in, block_at}
use Rattle.bc7_spec.specs.Block.{byte_count, colour_bytes}
use Rattle.bcn_spec.specs.declared.Refusal.{Refusal}
use Rattle.bcn_spec.specs.Refusals.{refusal_number}

-- S-66: what the call answers
pub record Bc7BlocksPixels : Type 0 where
  pub answer : ℕ
  pub blocks : ℕ

-- what a result stands for
abbrev pub told : Result ℕ Refusal → Bc7BlocksPixels
told (Ok blocks) = record { answer = done; blocks = blocks }
told (Err refusal) = record { answer = refusal_number refusal; blocks = 0 }

-- S-66: what `bc7_pixels` writes for block n, and for the first n blocks.
unfoldable pub shown_at : List ℕ → ℕ → List ℕ
shown_at blocks n = colour_bytes (block_at blocks n)

abbrev pub run_of : List ℕ → ℕ → List ℕ
run_of blocks n = join (made (shown_at blocks) n)

-- S-66: 9, then 3 for fewer than 64 bytes a block.
unfoldable pub run_refusal : ℕ → ℕ → ℕ
run_refusal size room =
    first_met ((not (eqb (size % block_size) 0), uneven_blocks) ∷ (ltb room (byte_count * (size / block_size)), short_output) ∷ [])

-- S-66: the answer has the number of blocks; 0 on a refusal.
abbrev pub run_answer : ℕ → List ℕ → Bc7BlocksPixels
run_answer zero blocks = record { answer = done; blocks = blocks_in blocks }
run_answer (suc n) blocks = record { answer = suc n; blocks = 0 }

-- S-30: a refusal writes nothing, not even the first block.
abbrev pub run_bytes : ℕ → List ℕ → List ℕ → List ℕ
run_bytes number blocks out = ifDone number (run_of blocks (blocks_in blocks) ++ drop (byte_count * blocks_in blocks) out) out

-- S-66: the statement of the call: its answer r, and the lent bytes `after`.
pub record RunPainted (blocks out : List ℕ) (r : Bc7BlocksPixels) (after : List ℕ) : Type 0 where
  pub answers : r ≡ run_answer (run_refusal (length blocks) (length out)) blocks
  pub holds : after ≡ run_bytes (run_refusal (length blocks) (length out)) blocks out
