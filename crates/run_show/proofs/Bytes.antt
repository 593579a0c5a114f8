-- What is written of a record, from what the calls ensure. Assumes nothing.
use mathlib.Core.Path.{◌≡◌, ◌∙◌, ap, ap₂}
use mathlib.Core.List.{List, ◌++◌}
use Prim.Native.Nat.{ℕ, ◌<◌}
use native.Mathlib.Omega.{arith}
use lib.Dec.{ltb}
use lib.Seq.{take_all, take_at, length-take-le}
use lib.ListN.{length, take, replicate}
use borrow.Author.Tests.{eq-eqb, ne_eqb, ltb-true, ltb-false}
use Rattle.laws.specs.Made.{made}
use Rattle.laws.proofs.Tests.{cases}
use Rattle.laws.proofs.Rows.{length_made}
use Rattle.bc6h_spec.specs.declared.Fields.{Fields}
use Rattle.bc6h_spec.specs.Fields.{no_fields}
use Rattle.bc6h_spec.specs.Picture.{value_count}
use Rattle.bc6_numbers.specs.Numbers.{number_count, fields_from}
use Rattle.bc6_palette.specs.Call.{refusal_of, values_at, FieldsShown}
use Rattle.run_show.specs.Picture.{input_size, output_size, number_in, fields_in, picture_byte, picture_bytes}

module _ (input : List ℕ) where
  pub no_record : {f : Fields} → (length input ≡ 64 → ⊥) → f ≡ no_fields → f ≡ fields_in input
  unfolding fields_in
  no_record n e = rw (ne_eqb (length input) 64 n) e

  pub a_record : length input ≡ 64 → {f : Fields} {numbers : List ℕ} → numbers ≡ made (number_in input) number_count → f ≡ fields_from numbers → f ≡ fields_in input
  unfolding fields_in
  a_record l {f} {numbers} e g = rw (eq-eqb (length input) 64 l) (g ∙ ap fields_from e)

  pub all_bytes : {f : Fields} {answer : ℕ} {values : List ℕ} → f ≡ fields_in input → FieldsShown f (replicate value_count 0) answer values
      → made (picture_byte answer values) 97 ≡ picture_bytes input
  unfolding picture_bytes
  all_bytes {f} {answer} {values} e w =
      ap₂ (λ (a : ℕ) (v : List ℕ). made (picture_byte a v) 97) w.answers w.holds
      ∙ ap (λ (g : Fields). made (picture_byte (refusal_of g value_count) (values_at (refusal_of g value_count) g (replicate value_count 0))) 97) e

-- ---- what goes out

pub length_picture : (input : List ℕ) → length (picture_bytes input) ≡ output_size
unfolding picture_bytes
length_picture input = length_made _ output_size

pub picture_first : (input rest : List ℕ) {after : List ℕ} → after ≡ picture_bytes input ++ rest → take output_size after ≡ picture_bytes input
picture_first input rest e = ap (take output_size) e ∙ take_at (picture_bytes input) rest output_size (length_picture input)

-- a longer input holds no record, and what is cut off of it changes nothing
none_picture : (input other : List ℕ) → (length input ≡ input_size → ⊥) → (length other ≡ input_size → ⊥) → picture_bytes input ≡ picture_bytes other
unfolding picture_bytes fields_in
none_picture input other n m = rw (ne_eqb (length input) input_size n, ne_eqb (length other) input_size m)

pub picture_cut : (input : List ℕ) (room : ℕ) → input_size < room → picture_bytes (take room input) ≡ picture_bytes input
picture_cut input room h =
    cases (ltb room (length input))
    (λ t. let longer = ltb-true room (length input) t in
    let size : length (take room input) ≡ room = length-take-le room input (omega arith) in
    none_picture (take room input) input (λ e. omega arith) (λ e. omega arith))
    (λ f. ap picture_bytes (take_all room input (ltb-false room (length input) f)))
