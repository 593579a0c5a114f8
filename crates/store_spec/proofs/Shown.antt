-- Laws of what a record shows: which records are refused, the picture, the mode. Assumes nothing.
use mathlib.Core.Path.{◌≡◌, sym, ◌∙◌, ap}
use mathlib.Core.Bool.{true, false}
use mathlib.Core.List.{List, ◌++◌}
use Prim.Native.Nat.{ℕ, ◌≤◌}
use native.Mathlib.Omega.{arith}
use lib.ListN.{length, take}
use lib.Seq.{take_all, take_at}
use borrow.Author.Tests.{eq-eqb, ne_eqb}
use Rattle.bcn_spec.specs.Bits.{block_size, number_of}
use Rattle.bc6h_spec.specs.Fields.{mode_in, mode_of}
use Rattle.bc6h_spec.specs.Picture.{value_count, is_signed}
use Rattle.bc6h_spec.specs.Block.{pixels_of}
use Rattle.bc6h_spec.proofs.Values.{length_pixels}
use Rattle.store_records.specs.Store.{format_of, block_of, record_refusal, Unrefused, part_at}
use Rattle.store_records.proofs.Refusals.{known, block_length}
use Rattle.store_records.proofs.Readings.{part_of}
use Rattle.store_spec.specs.Shown.{picture_at, is_record}

pub is_record_lem : (store : List ℕ) (n : ℕ) → Unrefused store n → is_record store n ≡ true
is_record_lem store n u = eq-eqb _ _ u

pub is_refused : (store : List ℕ) (n : ℕ) → (Unrefused store n → ⊥) → is_record store n ≡ false
is_refused store n r = ne_eqb _ _ r

-- ---- the picture

pub picture_length : (store : List ℕ) (n : ℕ) → length (picture_at store n) ≡ value_count
unfolding picture_at
picture_length store n = length_pixels (is_signed (format_of store n)) (block_of store n)

-- what is written of a record's block, by a call that decodes every block of a format
pub record_painted : (store : List ℕ) (n : ℕ) (more : List ℕ) {format : ℕ} {block after : List ℕ} → Unrefused store n → format ≡ format_of store n
    → block ≡ part_at (record_refusal store n) store n
    → (format ≤ 1 → length block ≡ block_size → after ≡ pixels_of (is_signed format) block ++ more) → after ≡ picture_at store n ++ more
unfolding picture_at
record_painted store n more {format} {block} u f b painted =
    let k = known store n u in
    let e : block ≡ block_of store n = b ∙ part_of store n u in
    painted (omega arith) (ap length e ∙ block_length k) ∙ rw (e, f)

-- the same where there is room for no more
pub whole_picture : (store : List ℕ) (n : ℕ) (more : List ℕ) {after : List ℕ} → after ≡ picture_at store n ++ more → length after ≡ value_count
    → after ≡ picture_at store n
whole_picture store n more {after} e l =
    sym (take_all value_count after (omega arith)) ∙ ap (take value_count) e ∙ take_at (picture_at store n) more value_count (picture_length store n)

-- ---- the mode

pub part_length : (store : List ℕ) (n : ℕ) {block : List ℕ} → Unrefused store n → block ≡ part_at (record_refusal store n) store n
    → length block ≡ block_size
part_length store n u b = ap length (b ∙ part_of store n u) ∙ block_length (known store n u)

pub part_mode : (store : List ℕ) (n : ℕ) {block : List ℕ} {number mode : ℕ} → Unrefused store n → block ≡ part_at (record_refusal store n) store n
    → number ≡ number_of block → mode ≡ mode_in number → mode ≡ mode_of (block_of store n)
unfolding mode_of
part_mode store n u b e m = m ∙ ap mode_in (e ∙ ap number_of (b ∙ part_of store n u))
