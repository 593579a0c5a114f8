-- S-38: the fields of an unreserved block show what the block shows, over the statements of the calls, and for C over 32 numbers. Assumes nothing.
use mathlib.Core.Path.{◌≡◌, ◌∙◌, refl, sym, ap, subst}
use mathlib.Core.List.{List, ◌++◌}
use Prim.Native.Nat.{ℕ, zero, suc, ◌≤◌}
use lib.Dec.{ltb}
use lib.ListN.{length, drop}
use borrow.Author.Tests.{le-ltb, eq-eqb}
use Rattle.laws.specs.Pick.{pick}
use Rattle.laws.proofs.Search.{is_true}
use Rattle.bc6h_spec.specs.declared.Fields.{Fields}
use Rattle.bcn_spec.specs.Answers.{done, short_output}
use Rattle.bcn_spec.specs.Bits.{block_size}
use Rattle.bc6h_spec.specs.Fields.{mode_of, fields_of, Valid}
use Rattle.bc6h_spec.specs.Picture.{value_count}
use Rattle.bc6h_spec.proofs.Pixel.{record_shows}
use Rattle.bc6h_spec.proofs.Reading.{fields_valid}
use Rattle.bc6_fields.specs.Call.{FieldsRead}
use Rattle.bc6_fields.specs.Call.{Extracted}
use Rattle.bc6_fields.proofs.Calls.{block_read}
use Rattle.bc6_valid.specs.Validity.{valid}
use Rattle.bc6_valid.proofs.Validity.{complete}
use Rattle.bc6_palette.specs.Call as shown
use Rattle.bc6.specs.Call.{Pixels}
use Rattle.bc6.specs.Call as pixels
use Rattle.bc6.proofs.Calls.{answered}
use Rattle.bc6_numbers.specs.Numbers.{number_count, fields_from}
use Rattle.bc6_numbers.proofs.Back.{fields_back}
use Rattle.knotpasture.specs.Fields.{FieldsCalled}
use Rattle.knotpasture.proofs.Undone.{numbers_are}

module _ (block : List ℕ) (format : ℕ) (l : length block ≡ block_size) (k : format ≤ 1) (m : 1 ≤ mode_of block) where
  -- what either call answers, by the room
  abbrev by_room : ℕ → ℕ
  by_room room = pick (ltb room value_count) short_output done

  block_answers : (room : ℕ) → pixels.refusal_of format (length block) room ≡ by_room room
  unfolding pixels.refusal_of
  block_answers room = rw (le-ltb 1 format k, eq-eqb (length block) block_size l) refl

  fields_answer : {f : Fields} → f ≡ fields_of format block → (room : ℕ) → shown.refusal_of f room ≡ by_room room
  fields_answer {f} e room =
      let v : Valid f = subst Valid (sym e) (fields_valid format block k m) in
      rw (le-ltb 1 f.format v.format_known, is_true (valid f) (complete f v)) refl

  same_values : (n : ℕ) (lent : List ℕ) → shown.values_at n (fields_of format block) lent ≡ pixels.values_at n block format lent
  same_values zero lent = ap (λ (p : List ℕ). p ++ drop value_count lent) (sym (record_shows format block k m))
  same_values (suc n) lent = refl

  -- the same number, and the same values
  pub record_shown : {f : Fields} → f ≡ fields_of format block → {lent : List ℕ} {r : ℕ} {after : List ℕ} → shown.FieldsShown f lent r after
      → {p : Pixels} {painted : List ℕ} → pixels.Painted block format lent p painted → (r ≡ p.answer) × (after ≡ painted)
  record_shown {f} e {lent} s p =
      let room = length lent in (
        s.answers ∙ fields_answer e room ∙ sym (answered p ∙ block_answers room),
        s.holds
            ∙ (λ i. shown.values_at (fields_answer e room i) (e i) lent)
            ∙ same_values (by_room room) lent
            ∙ sym (p.holds ∙ ap (λ (n : ℕ). pixels.values_at n block format lent) (block_answers room)),
      )

  -- S-38: what the field call reads of a block shows what the block shows.
  pub fields_show : {read : FieldsRead} → Extracted block format read
      → {lent : List ℕ} {r : ℕ} {after : List ℕ} → shown.FieldsShown read.fields lent r after
      → {p : Pixels} {painted : List ℕ} → pixels.Painted block format lent p painted → (r ≡ p.answer) × (after ≡ painted)
  fields_show x s p = record_shown (ap (λ (y : FieldsRead). y.fields) (block_read block format l k m x)) s p

  -- for C
  pub numbers_show : {room : List ℕ} → length room ≡ number_count → {word : ℕ} {numbers : List ℕ} → FieldsCalled block format room word numbers
      → {lent : List ℕ} {r : ℕ} {after : List ℕ} → shown.FieldsShown (fields_from numbers) lent r after
      → {p : Pixels} {painted : List ℕ} → pixels.Painted block format lent p painted → (r ≡ p.answer) × (after ≡ painted)
  numbers_show c d s p =
      record_shown (ap fields_from (numbers_are block format l k m c d) ∙ fields_back (fields_of format block) (fields_valid format block k m)) s p
