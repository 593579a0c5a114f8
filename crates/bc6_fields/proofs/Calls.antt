-- What follows from the field call's statement, and what it takes to show it. Assumes nothing.
use mathlib.Core.Path.{◌≡◌, ◌∙◌, refl, sym, ap}
use mathlib.Core.List.{List}
use Prim.Native.Nat.{ℕ, ◌<◌, ◌≤◌}
use native.Mathlib.Omega.{arith}
use lib.ListN.{length}
use borrow.Author.Tests.{lt-ltb, le-ltb, eq-eqb, ne_eqb}
use Rattle.bc6h_spec.specs.declared.Fields.{Fields}
use Rattle.bcn_spec.specs.Answers.{done, bad_format, block_not_16, reserved_mode}
use Rattle.bcn_spec.specs.Bits.{block_size}
use Rattle.bc6h_spec.specs.Fields.{mode_of, no_fields, fields_of}
use Rattle.bc6h_spec.proofs.Reading.{fields_mode}
use Rattle.bc6_fields.specs.Call.{FieldsRead}
use Rattle.bc6_fields.specs.Call.{Extracted}

-- the statement admits one outcome
pub one_outcome : {block : List ℕ} {format : ℕ} {r s : FieldsRead} → Extracted block format r → Extracted block format s → r ≡ s
one_outcome a b = a.answers ∙ sym b.answers

module _ (block : List ℕ) (format : ℕ) {f : Fields} where
  pub bad_format_lem : 1 < format → f ≡ no_fields → Extracted block format (record { answer = bad_format; fields = f })
  bad_format_lem h e = record { answers = rw (lt-ltb 1 format h, e) refl }

  module _ (k : format ≤ 1) where
    pub bad_block : (length block ≡ block_size → ⊥) → f ≡ no_fields → Extracted block format (record { answer = block_not_16; fields = f })
    bad_block ne e = record { answers = rw (le-ltb 1 format k, ne_eqb (length block) block_size ne, e) refl }

    module _ (l : length block ≡ block_size) where
      pub bad_mode : mode_of block ≡ 0 → f ≡ no_fields → Extracted block format (record { answer = reserved_mode; fields = f })
      bad_mode z e = record { answers = rw (le-ltb 1 format k, eq-eqb (length block) block_size l, z, e) refl }

      pub all_read : (mode_of block ≡ 0 → ⊥) → f ≡ fields_of format block → Extracted block format (record { answer = done; fields = f })
      all_read ne e = record { answers = rw (le-ltb 1 format k, eq-eqb (length block) block_size l, ne_eqb (mode_of block) 0 ne, e) refl }

-- an unreserved block of format 0 or 1 is read
pub block_read : (block : List ℕ) (format : ℕ) → length block ≡ block_size → format ≤ 1 → 1 ≤ mode_of block → {r : FieldsRead} → Extracted block format r
    → r ≡ record { answer = done; fields = fields_of format block }
block_read block format l k m x = one_outcome x (all_read block format k l (λ z. omega arith) refl)

-- the mode of the fields that were read
pub mode_read : (block : List ℕ) (format : ℕ) {f : Fields} → f ≡ fields_of format block → mode_of block ≡ f.mode
mode_read block format e = sym (fields_mode format block) ∙ ap (λ (g : Fields). g.mode) (sym e)
