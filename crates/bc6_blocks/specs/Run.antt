-- S-32: what `blocks_pixels` answers, and what the lent values then are. Assumes nothing.
use Rattle.std.specs.Prelude.{◌≡◌, Bool, not, List, [], ◌∷◌, ◌++◌, ℕ, zero, suc, ◌*◌, ◌/◌, ◌%◌, eqb, ltb, length, drop, Result, Ok, Err}
use Rattle.laws.specs.Checks.{first_met, ifDone}
use Rattle.laws.specs.Made.{made, count_of, join}
use Rattle.bcn_spec.specs.Answers.{done, bad_format, short_output, uneven_blocks}
use Rattle.bcn_spec.specs.Bits.{block_size, blocks_in, block_at}
use Rattle.bc6h_spec.specs.Half.{minus_infinity}
use Rattle.bc6h_spec.specs.Picture.{value_count, is_signed}
use Rattle.bc6h_spec.specs.Block.{pixels_of}
use Rattle.bc6_blocks.specs.declared.Shown.{Shown}
use Rattle.bcn_spec.specs.declared.Refusal.{Refusal}
use Rattle.bcn_spec.specs.Refusals.{refusal_number}

-- S-32: what the call answers
pub record BlocksPixels : Type 0 where
  pub answer : ℕ
  pub blocks : ℕ
  pub infinite : ℕ

-- what a result stands for
abbrev pub told : Result Shown Refusal → BlocksPixels
told (Ok shown) = record { answer = done; blocks = shown.blocks; infinite = shown.infinite }
told (Err refusal) = record { answer = refusal_number refusal; blocks = 0; infinite = 0 }

-- S-32: what `block_pixels` writes for block n, and for the first n blocks.
unfoldable pub shown_at : Bool → List ℕ → ℕ → List ℕ
shown_at signed blocks n = pixels_of signed (block_at blocks n)

unfoldable pub run_of : Bool → List ℕ → ℕ → List ℕ
run_of signed blocks n = join (made (shown_at signed blocks) n)

-- S-32: 1, 9, then 3 for fewer than 48 values a block.
unfoldable pub run_refusal : ℕ → ℕ → ℕ → ℕ
run_refusal format size room =
    first_met ((ltb 1 format, bad_format) ∷ (not (eqb (size % block_size) 0), uneven_blocks) ∷ (ltb room (value_count * (size / block_size)), short_output) ∷ [])

-- S-26, S-32: the answer has the number of blocks and how many values are 0xFC00; both are 0 on a refusal.
abbrev pub run_infinities : ℕ → List ℕ → ℕ
run_infinities format blocks = count_of minus_infinity (run_of (is_signed format) blocks (blocks_in blocks))

abbrev pub run_answer : ℕ → List ℕ → ℕ → BlocksPixels
run_answer zero blocks format = record { answer = done; blocks = blocks_in blocks; infinite = run_infinities format blocks }
run_answer (suc n) blocks format = record { answer = suc n; blocks = 0; infinite = 0 }

-- S-30, S-32: a refusal writes nothing, not even the first block.
abbrev pub run_values : ℕ → List ℕ → ℕ → List ℕ → List ℕ
run_values number blocks format out = ifDone number (run_of (is_signed format) blocks (blocks_in blocks) ++ drop (value_count * blocks_in blocks) out) out

-- S-32: the statement of the call: its answer r, and the lent values `after`.
pub record RunPainted (blocks : List ℕ) (format : ℕ) (out : List ℕ) (r : BlocksPixels) (after : List ℕ) : Type 0 where
  pub answers : r ≡ run_answer (run_refusal format (length blocks) (length out)) blocks format
  pub holds : after ≡ run_values (run_refusal format (length blocks) (length out)) blocks format out

-- The first n blocks, painted into 48 n values or more.
pub record RunWritten (signed : Bool) (blocks : List ℕ) (n : ℕ) (out : List ℕ) (infinite : ℕ) (after : List ℕ) : Type 0 where
  pub holds : after ≡ run_of signed blocks n ++ drop (value_count * n) out
  pub counts : infinite ≡ count_of minus_infinity (run_of signed blocks n)
