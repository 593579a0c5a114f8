-- What follows from the writer's statement, and what it takes to show it. Assumes nothing.
use mathlib.Core.Path.{◌≡◌, ◌∙◌, refl, sym, ap}
use mathlib.Core.Bool.{Bool, true, false}
use mathlib.Core.List.{List}
use Prim.Native.Nat.{ℕ, ◌≤◌, ◌<◌}
use lib.ListN.{length}
use borrow.Author.Tests.{lt-ltb, le-ltb, eq-eqb, ne_eqb}
use Rattle.laws.specs.Bit.{low_bytes}
use Rattle.bc6h_spec.specs.declared.Fields.{Fields}
use Rattle.bcn_spec.specs.Answers.{done, bad_format, invalid_fields, bad_buffer}
use Rattle.bcn_spec.specs.Bits.{block_size}
use Rattle.bc6h_spec.specs.Writer.{number_from, written_block}
use Rattle.bc6_valid.specs.Validity.{valid}
use Rattle.bc6_writer.specs.Call.{refusal_of, bytes_at, BlockWritten}

-- the statement admits one outcome
pub one_outcome : {f : Fields} {lent : List ℕ} {r s : ℕ} {a b : List ℕ} → BlockWritten f lent r a → BlockWritten f lent s b → (r ≡ s) × (a ≡ b)
one_outcome p q = (p.answers ∙ sym q.answers, p.holds ∙ sym q.holds)

module _ (f : Fields) (lent : List ℕ) where
  -- by the number of the refusal
  by_number : (n : ℕ) {after : List ℕ} → refusal_of f (length lent) ≡ n → after ≡ bytes_at n f lent → BlockWritten f lent n after
  by_number n e h = record { answers = sym e; holds = h ∙ ap (λ (k : ℕ). bytes_at k f lent) (sym e) }

  pub bad_format_lem : 1 < f.format → BlockWritten f lent bad_format lent
  bad_format_lem h = by_number bad_format (rw (lt-ltb 1 f.format h)) refl

  module _ (k : f.format ≤ 1) {r : Bool} (e : r ≡ valid f) where
    pub bad_record : r ≡ false → BlockWritten f lent invalid_fields lent
    bad_record t = by_number invalid_fields (rw (le-ltb 1 f.format k, sym e ∙ t)) refl

    module _ (t : r ≡ true) where
      pub bad_buffer_lem : (length lent ≡ block_size → ⊥) → BlockWritten f lent bad_buffer lent
      bad_buffer_lem n = by_number bad_buffer (rw (le-ltb 1 f.format k, sym e ∙ t, ne_eqb (length lent) block_size n)) refl

      pub all_written : {after : List ℕ} {n : ℕ} → length lent ≡ block_size → after ≡ low_bytes 16 n → n ≡ number_from f → BlockWritten f lent done after
      unfolding written_block
      all_written l ea en = by_number done (rw (le-ltb 1 f.format k, sym e ∙ t, eq-eqb (length lent) block_size l)) (ea ∙ ap (low_bytes 16) en)
