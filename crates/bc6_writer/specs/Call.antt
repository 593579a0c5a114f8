-- S-36: what the writer answers, and what the lent bytes then are. Assumes nothing.
use Rattle.std.specs.Prelude.{◌≡◌, not, List, [], ◌∷◌, ℕ, eqb, ltb, length}
use Rattle.laws.specs.Checks.{first_met, ifDone}
use Rattle.bc6h_spec.specs.declared.Fields.{Fields}
use Rattle.bcn_spec.specs.Answers.{bad_format, invalid_fields, bad_buffer}
use Rattle.bcn_spec.specs.Bits.{block_size}
use Rattle.bc6h_spec.specs.Writer.{written_block}
use Rattle.bc6_valid.specs.Validity.{valid}

-- S-36: 1, 10, 11: the format, the record, the lent bytes.
abbrev pub refusal_of : Fields → ℕ → ℕ
refusal_of f room =
    first_met ((ltb 1 f.format, bad_format) ∷ (not (valid f), invalid_fields) ∷ (not (eqb room block_size), bad_buffer) ∷ [])

-- S-30: done writes the block; a refusal writes nothing.
abbrev pub bytes_at : ℕ → Fields → List ℕ → List ℕ
bytes_at number f lent = ifDone number (written_block f) lent

-- S-36: the whole outcome of the call
pub record BlockWritten (f : Fields) (lent : List ℕ) (r : ℕ) (after : List ℕ) : Type 0 where
  pub answers : r ≡ refusal_of f (length lent)
  pub holds : after ≡ bytes_at (refusal_of f (length lent)) f lent
