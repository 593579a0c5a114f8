-- S-35: what the field call answers. Assumes nothing.
use Rattle.std.specs.Prelude.{◌≡◌, not, List, [], ◌∷◌, ℕ, zero, suc, eqb, ltb, length, Result, Ok, Err}
use Rattle.laws.specs.Checks.{first_met}
use Rattle.bcn_spec.specs.Answers.{done, bad_format, block_not_16, reserved_mode}
use Rattle.bcn_spec.specs.Bits.{block_size}
use Rattle.bc6h_spec.specs.Fields.{mode_of, no_fields, fields_of}
use Rattle.bc6h_spec.specs.declared.Fields.{Fields}
use Rattle.bcn_spec.specs.declared.Refusal.{Refusal}
use Rattle.bcn_spec.specs.Refusals.{refusal_number}

-- S-35: a number, and the fields.
pub record FieldsRead : Type 0 where
  pub answer : ℕ
  pub fields : Fields

-- what a result stands for
abbrev pub told : Result Fields Refusal → FieldsRead
told (Ok f) = record { answer = done; fields = f }
told (Err refusal) = record { answer = refusal_number refusal; fields = no_fields }

-- S-35: 1, 2, 4: the format, the block's length, its mode.
abbrev pub refusal_of : ℕ → ℕ → ℕ → ℕ
refusal_of format size mode =
    first_met ((ltb 1 format, bad_format) ∷ (not (eqb size block_size), block_not_16) ∷ (eqb mode 0, reserved_mode) ∷ [])

-- S-35: a refusal's record is all zeros.
abbrev pub answer_at : ℕ → ℕ → List ℕ → FieldsRead
answer_at zero format block = record { answer = done; fields = fields_of format block }
answer_at (suc n) format block = record { answer = suc n; fields = no_fields }

-- the whole outcome of the call
pub record Extracted (block : List ℕ) (format : ℕ) (r : FieldsRead) : Type 0 where
  pub answers : r ≡ answer_at (refusal_of format (length block) (mode_of block)) format block
