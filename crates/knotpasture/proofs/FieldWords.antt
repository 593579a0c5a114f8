-- The exports over the fields of a block as numbers, from what the calls ensure. Assumes nothing.
use mathlib.Core.Path.{◌≡◌, refl, sym, ap, ◌∙◌}
use mathlib.Core.List.{List, ◌++◌}
use Prim.Native.Nat.{ℕ, zero, suc, ◌<◌, ◌≤◌}
use lib.ListN.{length, drop}
use borrow.Author.Tests.{lt-ltb, le-ltb}
use Rattle.bc6h_spec.specs.declared.Fields.{Fields}
use Rattle.bcn_spec.specs.Answers.{short_output}
use Rattle.bc6h_spec.specs.Fields.{mode_of, fields_of}
use Rattle.bc6_fields.specs.Call.{FieldsRead}
use Rattle.bc6_fields.specs.Call.{refusal_of, answer_at, Extracted}
use Rattle.bc6_fields.proofs.Calls.{mode_read}
use Rattle.bc6_numbers.specs.Numbers.{number_count, numbers_of}
use Rattle.knotpasture.specs.Words.{two_bytes}
use Rattle.knotpasture.specs.Fields.{FieldsCalled}

-- ---- the field call

answer_is : (number format : ℕ) (block : List ℕ) → (answer_at number format block).answer ≡ number
answer_is zero format block = refl
answer_is (suc number) format block = refl

refusal_called : (number : ℕ) (block : List ℕ) (format : ℕ) (lent : List ℕ) → refusal_of format (length block) (mode_of block) ≡ number → (number ≡ 0 → ⊥)
    → FieldsCalled block format lent number lent
refusal_called zero block format lent e h = absurd (h refl)
refusal_called (suc number) block format lent e h = record { answers = rw e; holds = rw e }

module _ {block : List ℕ} {format : ℕ} {r : FieldsRead} (d : Extracted block format r) (lent : List ℕ) where
  number_of : refusal_of format (length block) (mode_of block) ≡ r.answer
  number_of = sym (ap (λ (x : FieldsRead). x.answer) d.answers ∙ answer_is (refusal_of format (length block) (mode_of block)) format block)

  pub fields_refused : (r.answer ≡ 0 → ⊥) → FieldsCalled block format lent r.answer lent
  fields_refused h = refusal_called r.answer block format lent number_of h

  module _ (z : r.answer ≡ 0) where
    unrefused : refusal_of format (length block) (mode_of block) ≡ 0
    unrefused = number_of ∙ z

    pub fields_short : length lent < number_count → FieldsCalled block format lent short_output lent
    fields_short h = record { answers = rw (unrefused, lt-ltb _ _ h); holds = rw (unrefused, lt-ltb _ _ h) }

    fields_are : r.fields ≡ fields_of format block
    fields_are = ap (λ (x : FieldsRead). x.fields) d.answers ∙ rw unrefused

    pub fields_done : {word : ℕ} {after : List ℕ} → number_count ≤ length lent → after ≡ numbers_of r.fields ++ drop number_count lent
        → word ≡ two_bytes 0 r.fields.mode → FieldsCalled block format lent word after
    fields_done h e w =
        record {
          answers = rw (unrefused, le-ltb _ _ h) (w ∙ ap (two_bytes 0) (sym (mode_read block format fields_are)));
          holds = rw (unrefused, le-ltb _ _ h) (e ∙ ap (λ (f : Fields). numbers_of f ++ drop number_count lent) fields_are);
        }

pub one_fields : {block : List ℕ} {format : ℕ} {lent : List ℕ} {r s : ℕ} {a b : List ℕ} → FieldsCalled block format lent r a → FieldsCalled block format lent s b
    → (r ≡ s) × (a ≡ b)
one_fields d e = (d.answers ∙ sym e.answers, d.holds ∙ sym e.holds)
