-- The writer and the field call undo each other, as what the two calls promise: every unreserved block comes back byte for byte, and
-- every valid record as it went in, in all fourteen modes. Assumes nothing.
use mathlib.Core.Path.{◌≡◌, ◌∙◌, refl, sym, ap, subst}
use mathlib.Core.List.{List}
use Prim.Native.Nat.{ℕ, ◌≤◌}
use lib.ListN.{length}
use borrow.Author.Tests.{le-ltb, eq-eqb}
use Rattle.laws.proofs.Search.{is_true}
use Rattle.bc6h_spec.specs.declared.Fields.{Fields}
use Rattle.bcn_spec.specs.Answers.{done}
use Rattle.bcn_spec.specs.Bits.{block_size, IsBlock}
use Rattle.bc6h_spec.specs.Fields.{mode_of, fields_of, Valid}
use Rattle.bc6h_spec.specs.Writer.{written_block}
use Rattle.bc6h_spec.proofs.Reading.{fields_valid, fields_mode}
use Rattle.bc6h_spec.proofs.Undo.{written_read, read_written_back, is_written}
use Rattle.bc6_fields.specs.Call.{FieldsRead}
use Rattle.bc6_fields.specs.Call.{Extracted}
use Rattle.bc6_fields.proofs.Calls.{block_read}
use Rattle.bc6_valid.specs.Validity.{valid}
use Rattle.bc6_writer.specs.Call.{refusal_of, BlockWritten}
use Rattle.bc6_valid.proofs.Validity.{complete}

-- a valid record is written
module _ (f : Fields) (v : Valid f) {lent : List ℕ} (l : length lent ≡ block_size) {r : ℕ} {after : List ℕ} (w : BlockWritten f lent r after) where
  unrefused : refusal_of f (length lent) ≡ done
  unrefused = rw (le-ltb 1 f.format v.format_known, is_true (valid f) (complete f v), eq-eqb (length lent) block_size l) refl

  pub answered : r ≡ done
  answered = w.answers ∙ unrefused

  block_written : after ≡ written_block f
  block_written = rw unrefused at w.holds

  pub read_back : fields_of f.format after ≡ f
  read_back = ap (fields_of f.format) block_written ∙ read_written_back f v

  pub written_size : length after ≡ block_size
  written_size = ap length block_written ∙ (is_written f v).sixteen

  pub written_mode : 1 ≤ mode_of after
  written_mode = subst (λ (m : ℕ). 1 ≤ m) (ap (λ (g : Fields). g.mode) (sym read_back) ∙ fields_mode f.format after) v.mode_first

-- the fields of an unreserved block are written as the block
pub block_of_fields : (block : List ℕ) (format : ℕ) → IsBlock block → format ≤ 1 → 1 ≤ mode_of block → {f : Fields} → f ≡ fields_of format block
    → {lent : List ℕ} → length lent ≡ block_size → {r : ℕ} {after : List ℕ} → BlockWritten f lent r after → (r ≡ done) × (after ≡ block)
block_of_fields block format b k m {f} e l w =
    let v : Valid f = subst Valid (sym e) (fields_valid format block k m) in
    (answered f v l w, block_written f v l w ∙ ap written_block e ∙ written_read format block b m)

-- S-36: an unreserved block comes back byte for byte
pub block_again : (block : List ℕ) (format : ℕ) → IsBlock block → format ≤ 1 → 1 ≤ mode_of block → {read : FieldsRead} → Extracted block format read
    → {lent : List ℕ} → length lent ≡ block_size → {r : ℕ} {after : List ℕ} → BlockWritten read.fields lent r after
    → (read.answer ≡ done) × ((r ≡ done) × (after ≡ block))
block_again block format b k m {read} x l w =
    let is : read ≡ record { answer = done; fields = fields_of format block } = block_read block format b.sixteen k m x in
    (ap (λ (x : FieldsRead). x.answer) is, block_of_fields block format b k m (ap (λ (x : FieldsRead). x.fields) is) l w)

-- S-36: a valid record comes back as it went in
pub record_again : (f : Fields) → Valid f → {lent : List ℕ} → length lent ≡ block_size → {r : ℕ} {after : List ℕ} → BlockWritten f lent r after
    → {read : FieldsRead} → Extracted after f.format read → (r ≡ done) × (read ≡ record { answer = done; fields = f })
record_again f v l {r} {after} w x = (
  answered f v l w,
  block_read after f.format (written_size f v l w) v.format_known (written_mode f v l w) x
      ∙ ap (λ (g : Fields). record { answer = done; fields = g }) (read_back f v l w),
)
