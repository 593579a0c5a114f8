-- The field call and the writer undo each other for C too, over 32 numbers. Assumes nothing.
use mathlib.Core.Path.{◌≡◌, ◌∙◌, sym, ap}
use mathlib.Core.List.{List, ◌++◌, append-nil}
use Prim.Native.Nat.{ℕ, ◌≤◌}
use native.Mathlib.Omega.{arith}
use lib.ListN.{length, drop}
use lib.Seq.{drop-length}
use borrow.Author.Tests.{le-ltb, eq-eqb, ne_eqb}
use Rattle.bc6h_spec.specs.declared.Fields.{Fields}
use Rattle.bcn_spec.specs.Answers.{done}
use Rattle.bcn_spec.specs.Bits.{block_size, IsBlock}
use Rattle.bc6h_spec.specs.Fields.{mode_of, fields_of, Valid}
use Rattle.bc6h_spec.proofs.Reading.{fields_valid}
use Rattle.bc6_writer.specs.Call.{BlockWritten}
use Rattle.bc6_writer.proofs.Undone.{answered, read_back, written_size, written_mode, block_of_fields}
use Rattle.bc6_numbers.specs.Numbers.{number_count, numbers_of, fields_from}
use Rattle.bc6_numbers.proofs.Back.{fields_back}
use Rattle.knotpasture.specs.Fields.{FieldsCalled}

-- the numbers that are written of an unreserved block, where there is room for no other
pub numbers_are : (block : List ℕ) (format : ℕ) → length block ≡ block_size → format ≤ 1 → 1 ≤ mode_of block → {lent : List ℕ} → length lent ≡ number_count
    → {r : ℕ} {numbers : List ℕ} → FieldsCalled block format lent r numbers → numbers ≡ numbers_of (fields_of format block)
numbers_are block format s k m {lent} l d =
    d.holds
    ∙ rw (le-ltb 1 format k, eq-eqb (length block) block_size s, ne_eqb (mode_of block) 0 (omega arith), l)
    (ap (λ (t : List ℕ). numbers_of (fields_of format block) ++ t) (ap (λ (n : ℕ). drop n lent) (sym l) ∙ drop-length lent)
    ∙ append-nil (numbers_of (fields_of format block)))

-- every unreserved block comes back byte for byte
pub block_back : (block : List ℕ) (format : ℕ) → IsBlock block → format ≤ 1 → 1 ≤ mode_of block
    → {lent : List ℕ} → length lent ≡ number_count → {r : ℕ} {numbers : List ℕ} → FieldsCalled block format lent r numbers
    → {out : List ℕ} → length out ≡ block_size → {s : ℕ} {after : List ℕ} → BlockWritten (fields_from numbers) out s after → (s ≡ done) × (after ≡ block)
block_back block format b k m l {r} {numbers} d o w =
    block_of_fields block format b k m
    (ap fields_from (numbers_are block format b.sixteen k m l d) ∙ fields_back (fields_of format block) (fields_valid format block k m)) o w

-- the numbers of every valid record come back as they went in
pub numbers_back : (f : Fields) → Valid f → {out : List ℕ} → length out ≡ block_size → {s : ℕ} {block : List ℕ} → BlockWritten (fields_from (numbers_of f)) out s block
    → {lent : List ℕ} → length lent ≡ number_count → {r : ℕ} {numbers : List ℕ} → FieldsCalled block f.format lent r numbers
    → (s ≡ done) × (numbers ≡ numbers_of f)
numbers_back f v {out} o {s} {block} w l d =
    let x : BlockWritten f out s block = rw (fields_back f v) at w in (
      answered f v o x,
      numbers_are block f.format (written_size f v o x) v.format_known (written_mode f v o x) l d ∙ ap numbers_of (read_back f v o x),
    )
