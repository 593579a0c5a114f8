-- S-66: what `bc7_pixels` answers, and what the lent bytes then are. Assumes nothing.
use Rattle.std.specs.Prelude.{◌≡◌, not, List, [], ◌∷◌, ◌++◌, ℕ, zero, suc, eqb, ltb, length, drop, Result, Ok, Err}
use Rattle.laws.specs.Checks.{first_met, ifDone}
use Rattle.bcn_spec.specs.Answers.{done, block_not_16, short_output}
use Rattle.bcn_spec.specs.Bits.{block_size}
use Rattle.bc7_spec.specs.Fields.{mode_of}
use Rattle.bc7_spec.specs.Block.{byte_count, colour_bytes}
use Rattle.bc7.specs.declared.Shown.{Shown}
use Rattle.bcn_spec.specs.declared.Refusal.{Refusal}
use Rattle.bcn_spec.specs.Refusals.{refusal_number}

-- S-66: what the call answers
pub record Bc7Pixels : Type 0 where
  pub answer : ℕ
  pub mode : ℕ

-- what a result stands for
abbrev pub told : Result Shown Refusal → Bc7Pixels
told (Ok shown) = record { answer = done; mode = shown.mode }
told (Err refusal) = record { answer = refusal_number refusal; mode = 0 }

-- S-66: 2, then 3 for fewer than 64 bytes: the first check that is met, from the block's length and the room.
unfoldable pub refusal_of : ℕ → ℕ → ℕ
refusal_of size room = first_met ((not (eqb size block_size), block_not_16) ∷ (ltb room byte_count, short_output) ∷ [])

-- S-66: the answer has the mode, 0 to 7, or 8 for a reserved block; 0 on a refusal.
abbrev pub answer_at : ℕ → List ℕ → Bc7Pixels
answer_at zero block = record { answer = done; mode = mode_of block }
answer_at (suc n) block = record { answer = suc n; mode = 0 }

-- S-30: done writes exactly the first 64 bytes; a refusal writes nothing.
abbrev pub bytes_at : ℕ → List ℕ → List ℕ → List ℕ
bytes_at number block out = ifDone number (colour_bytes block ++ drop byte_count out) out

-- S-66: the statement of the call: its answer r, and the lent bytes `after`.
pub record Painted (block out : List ℕ) (r : Bc7Pixels) (after : List ℕ) : Type 0 where
  pub answers : r ≡ answer_at (refusal_of (length block) (length out)) block
  pub holds : after ≡ bytes_at (refusal_of (length block) (length out)) block out
