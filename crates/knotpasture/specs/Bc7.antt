-- S-66, S-87: what the exports for BC7 answer: the calls' own answers in a word. Assumes nothing.
use Rattle.std.specs.Prelude.{◌≡◌, List, ℕ, length}
use Rattle.bc7.specs.Call.{Bc7Pixels}
use Rattle.bc7.specs.Call.{refusal_of, answer_at, bytes_at}
use Rattle.bc7_blocks.specs.Run.{run_refusal, run_answer, run_bytes}
use Rattle.knotpasture.specs.Words.{two_bytes}

-- the number in the low byte, the mode in the next
abbrev pub bc7_word : Bc7Pixels → ℕ
bc7_word p = two_bytes p.answer p.mode

-- The pixels call: its answer in one word, and the lent bytes as the call leaves them.
pub record Bc7Called (block out : List ℕ) (r : ℕ) (after : List ℕ) : Type 0 where
  pub answers : r ≡ bc7_word (answer_at (refusal_of (length block) (length out)) block)
  pub holds : after ≡ bytes_at (refusal_of (length block) (length out)) block out

-- The call over a run of blocks: its number, the lent bytes as the call leaves them, and in the slot the number of blocks.
pub record Bc7RunCalled (blocks out : List ℕ) (r : ℕ) (after : List ℕ) (done : ℕ) : Type 0 where
  pub answers : record { answer = r; blocks = done } ≡ run_answer (run_refusal (length blocks) (length out)) blocks
  pub holds : after ≡ run_bytes (run_refusal (length blocks) (length out)) blocks out
