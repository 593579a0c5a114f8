-- S-38: what `fields_pixels` answers, and what the lent values then are. Assumes nothing.
use Rattle.std.specs.Prelude.{◌≡◌, not, List, [], ◌∷◌, ◌++◌, ℕ, ltb, length, drop}
use Rattle.laws.specs.Checks.{first_met, ifDone}
use Rattle.bc6h_spec.specs.declared.Fields.{Fields}
use Rattle.bcn_spec.specs.Answers.{bad_format, short_output, invalid_fields}
use Rattle.bc6h_spec.specs.Picture.{value_count, picture}
use Rattle.bc6_valid.specs.Validity.{valid}

-- S-38: 1, 10, 3: the first check that is met, from the record and the room
abbrev pub refusal_of : Fields → ℕ → ℕ
refusal_of f room =
    first_met ((ltb 1 f.format, bad_format) ∷ (not (valid f), invalid_fields) ∷ (ltb room value_count, short_output) ∷ [])

-- S-30: done writes exactly the first 48 values; a refusal writes nothing.
abbrev pub values_at : ℕ → Fields → List ℕ → List ℕ
values_at number f lent = ifDone number (picture f ++ drop value_count lent) lent

-- S-38: the whole outcome of the call
pub record FieldsShown (f : Fields) (lent : List ℕ) (r : ℕ) (after : List ℕ) : Type 0 where
  pub answers : r ≡ refusal_of f (length lent)
  pub holds : after ≡ values_at (refusal_of f (length lent)) f lent
