-- S-31: what `block_pixels` answers, and what the lent values then are. Assumes nothing.
use Rattle.std.specs.Prelude.{◌≡◌, not, List, [], ◌∷◌, ◌++◌, ℕ, zero, suc, eqb, ltb, length, drop, Result, Ok, Err}
use Rattle.laws.specs.Checks.{first_met, ifDone}
use Rattle.bcn_spec.specs.Answers.{done, bad_format, block_not_16, short_output}
use Rattle.bcn_spec.specs.Bits.{block_size}
use Rattle.bc6h_spec.specs.Fields.{mode_of}
use Rattle.bc6h_spec.specs.Picture.{value_count, is_signed}
use Rattle.bc6h_spec.specs.Block.{pixels_of, infinities_of}
use Rattle.bc6.specs.declared.Shown.{Shown}
use Rattle.bcn_spec.specs.declared.Refusal.{Refusal}
use Rattle.bcn_spec.specs.Refusals.{refusal_number}

-- S-31: what the call answers
pub record Pixels : Type 0 where
  pub answer : ℕ
  pub mode : ℕ
  pub infinite : ℕ

-- what a result stands for
abbrev pub told : Result Shown Refusal → Pixels
told (Ok shown) = record { answer = done; mode = shown.mode; infinite = shown.infinite }
told (Err refusal) = record { answer = refusal_number refusal; mode = 0; infinite = 0 }

-- S-31: 1, 2, 3: the first check that is met, from the format, the block's length and the room.
unfoldable pub refusal_of : ℕ → ℕ → ℕ → ℕ
refusal_of format size room =
    first_met ((ltb 1 format, bad_format) ∷ (not (eqb size block_size), block_not_16) ∷ (ltb room value_count, short_output) ∷ [])

-- S-26, S-31: the answer has the mode and how many values are 0xFC00. A reserved block is done, with mode 0; a refusal has mode 0 and counts none.
abbrev pub answer_at : ℕ → List ℕ → ℕ → Pixels
answer_at zero block format = record { answer = done; mode = mode_of block; infinite = infinities_of (is_signed format) block }
answer_at (suc n) block format = record { answer = suc n; mode = 0; infinite = 0 }

-- S-30: done writes exactly the first 48 values; a refusal writes nothing.
abbrev pub values_at : ℕ → List ℕ → ℕ → List ℕ → List ℕ
values_at number block format out = ifDone number (pixels_of (is_signed format) block ++ drop value_count out) out

-- S-31: the statement of the call: its answer r, and the lent values `after`.
pub record Painted (block : List ℕ) (format : ℕ) (out : List ℕ) (r : Pixels) (after : List ℕ) : Type 0 where
  pub answers : r ≡ answer_at (refusal_of format (length block) (length out)) block format
  pub holds : after ≡ values_at (refusal_of format (length block) (length out)) block format out
