-- S-31, S-32, S-87: what the exports that decode BC6H answer: the calls' own answers, packed into one word or in slots. Assumes nothing.
use Rattle.std.specs.Prelude.{◌≡◌, List, ℕ, ◌+◌, ◌*◌, length}
use Rattle.bc6.specs.Call.{Pixels}
use Rattle.bc6.specs.Call.{refusal_of, answer_at, values_at}
use Rattle.bc6_blocks.specs.Run.{run_refusal, run_answer, run_values}
use Rattle.knotpasture.specs.Words.{two_bytes}

-- the number in the low byte, the mode in the next, and above it how many values are minus infinity
abbrev pub pixels_word : Pixels → ℕ
pixels_word p = two_bytes p.answer p.mode + p.infinite * 0x10000

-- S-31, S-87: the pixels call: its answer in one word, and the lent values as the call leaves them.
pub record PixelsCalled (block : List ℕ) (format : ℕ) (out : List ℕ) (r : ℕ) (after : List ℕ) : Type 0 where
  pub answers : r ≡ pixels_word (answer_at (refusal_of format (length block) (length out)) block format)
  pub holds : after ≡ values_at (refusal_of format (length block) (length out)) block format out

-- S-32, S-87: the call over a run of blocks: its number, the lent values as the call leaves them, and in the slots the number of blocks and how many
-- values are minus infinity.
pub record RunCalled (blocks : List ℕ) (format : ℕ) (out : List ℕ) (r : ℕ) (after : List ℕ) (done infinite : ℕ) : Type 0 where
  pub answers : record { answer = r; blocks = done; infinite = infinite } ≡ run_answer (run_refusal format (length blocks) (length out)) blocks format
  pub holds : after ≡ run_values (run_refusal format (length blocks) (length out)) blocks format out
