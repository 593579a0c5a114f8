-- What follows from the statement of `fields_pixels`, and what it takes to show it. Assumes nothing.
use mathlib.Core.Path.{◌≡◌, ◌∙◌, refl, sym, ap}
use mathlib.Core.Bool.{Bool, true}
use mathlib.Core.List.{List, ◌++◌}
use Prim.Native.Nat.{ℕ, ◌≤◌}
use lib.ListN.{length, drop}
use borrow.Author.Tests.{le-ltb}
use Rattle.laws.proofs.Rows.{length_made}
use Rattle.bc6h_spec.specs.declared.Fields.{Fields}
use Rattle.bcn_spec.specs.Answers.{done}
use Rattle.bc6h_spec.specs.Picture.{value_count, is_signed, value, picture_as, picture}
use Rattle.bc6_half.specs.declared.Half.{Half}
use Rattle.bc6_valid.specs.Validity.{valid}
use Rattle.bc6_palette.specs.Triples.{in_triples, flat}
use Rattle.bc6_palette.specs.Call.{FieldsShown}
use Rattle.bc6_palette.proofs.Flat.{flat_triples}

-- the statement admits one outcome
pub one_outcome : {f : Fields} {lent : List ℕ} {r s : ℕ} {a b : List ℕ} → FieldsShown f lent r a → FieldsShown f lent s b → (r ≡ s) × (a ≡ b)
one_outcome p q = (p.answers ∙ sym q.answers, p.holds ∙ sym q.holds)

-- 48 values
picture_length : (f : Fields) → length (picture f) ≡ value_count
unfolding picture picture_as
picture_length f = length_made (value (is_signed f.format) f) value_count

module _ (f : Fields) (lent : List ℕ) (k : f.format ≤ 1) {r : Bool} (e : r ≡ valid f) (t : r ≡ true) where
  pub all_shown : {after : List ℕ} {triples : List (List Half)} → value_count ≤ length lent → triples ≡ in_triples (picture f)
      → after ≡ flat triples ++ drop value_count lent → FieldsShown f lent done after
  all_shown h et ea =
      record {
        answers = rw (le-ltb 1 f.format k, sym e ∙ t, le-ltb (length lent) value_count h) refl;
        holds = rw (le-ltb 1 f.format k, sym e ∙ t, le-ltb (length lent) value_count h)
            (ea ∙ ap (λ (l : List ℕ). l ++ drop value_count lent) (ap flat et ∙ flat_triples (picture f) (picture_length f)));
      }
