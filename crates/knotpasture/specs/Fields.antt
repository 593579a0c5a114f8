-- S-35, S-87: what the exports over the fields of a block answer: the calls' own answers, packed into one word. Assumes nothing.
use Rattle.std.specs.Prelude.{◌≡◌, List, ◌++◌, ℕ, zero, suc, ltb, length, drop}
use Rattle.laws.specs.Pick.{pick}
use Rattle.laws.specs.Checks.{ifDone, or_next}
use Rattle.bcn_spec.specs.Answers.{done, short_output}
use Rattle.bc6h_spec.specs.Fields.{mode_of, fields_of}
use Rattle.bc6_fields.specs.Call as fields
use Rattle.bc6_numbers.specs.Numbers.{number_count, numbers_of}
use Rattle.knotpasture.specs.Words.{two_bytes}

-- S-35, S-87: the field call's own refusals, 1, 2 and 4, and then 3, where the lent numbers are too few
abbrev pub with_room : ℕ → ℕ → ℕ
with_room number room = or_next number (pick (ltb room number_count) short_output done)

abbrev pub fields_refusal : List ℕ → ℕ → ℕ → ℕ
fields_refusal block format room = with_room (fields.refusal_of format (length block) (mode_of block)) room

-- the number in the low byte, the mode in the next
abbrev pub fields_word : ℕ → List ℕ → ℕ
fields_word zero block = two_bytes done (mode_of block)
fields_word (suc number) block = suc number

abbrev pub numbers_at : ℕ → List ℕ → ℕ → List ℕ → List ℕ
numbers_at number block format lent = ifDone number (numbers_of (fields_of format block) ++ drop number_count lent) lent

-- S-35, S-87: the field call: its answer in one word, and the lent numbers, which a refusal leaves.
pub record FieldsCalled (block : List ℕ) (format : ℕ) (lent : List ℕ) (r : ℕ) (after : List ℕ) : Type 0 where
  pub answers : r ≡ fields_word (fields_refusal block format (length lent)) block
  pub holds : after ≡ numbers_at (fields_refusal block format (length lent)) block format lent
