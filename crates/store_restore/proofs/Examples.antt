-- A few stores, computed. Assumes nothing.
use mathlib.Core.Path.{◌≡◌, refl}
use mathlib.Core.List.{List, [], ◌∷◌, ◌++◌}
use Prim.Native.Nat.{ℕ}
use Rattle.laws.specs.First.{first_below}
use Rattle.bc6h_spec.specs.Fields.{mode_of, mode_in}
use Rattle.raw_bytes.specs.Bytes.{low_first}
use Rattle.store_records.specs.Store.{record_refusal, block_of}
use Rattle.store_clean.specs.Clean.{repeats, first_of, goes, record_of, left, staying, cleaned_of}
use Rattle.store_receipt.specs.Receipt.{entry_of, receipt_upto, receipt_of}
use Rattle.store_restore.specs.Restore.{entry_for, is_told, put_back, restored_upto, restored_of}

-- a record of an all-zero block
abbrev zero_record : ℕ → ℕ → List ℕ
zero_record tile format =
    tile ∷ 0 ∷ 0 ∷ 0 ∷ format ∷ 0 ∷ 0 ∷ 0 ∷ 0 ∷ 0 ∷ 0 ∷ 0 ∷ 0 ∷ 0 ∷ 0 ∷ 0 ∷ 0 ∷ 0 ∷ 0 ∷ 0 ∷ 0 ∷ 0 ∷ 0 ∷ 0 ∷ []

-- the third of three is a copy of the first; the second has another format
abbrev apart : List ℕ
apart = zero_record 7 0 ++ zero_record 8 1 ++ zero_record 9 0

-- three copies
abbrev alike : List ℕ
alike = zero_record 7 0 ++ zero_record 8 0 ++ zero_record 9 0

apart_cleaned : cleaned_of apart ≡ zero_record 7 0 ++ zero_record 8 1
unfolding left goes first_of first_below record_of repeats record_refusal mode_of mode_in block_of
apart_cleaned = refl

apart_receipt : receipt_of apart ≡ 2 ∷ 0 ∷ 0 ∷ 0 ∷ 9 ∷ 0 ∷ 0 ∷ 0 ∷ []
unfolding receipt_upto goes first_of first_below repeats record_refusal mode_of mode_in block_of entry_of
apart_receipt = refl

-- the record that stays for the third is the first, and not the second, which goes too
alike_receipt : receipt_of alike ≡ 1 ∷ 0 ∷ 0 ∷ 0 ∷ 8 ∷ 0 ∷ 0 ∷ 0 ∷ 2 ∷ 0 ∷ 0 ∷ 0 ∷ 9 ∷ 0 ∷ 0 ∷ 0 ∷ []
unfolding receipt_upto goes first_of first_below repeats record_refusal mode_of mode_in block_of entry_of
alike_receipt = refl

apart_restored : restored_of (zero_record 7 0 ++ zero_record 8 1) (2 ∷ 0 ∷ 0 ∷ 0 ∷ 9 ∷ 0 ∷ 0 ∷ 0 ∷ []) ≡ apart
unfolding restored_upto is_told entry_for first_below record_of staying put_back low_first
apart_restored = refl

alike_restored : restored_of (zero_record 7 0) (1 ∷ 0 ∷ 0 ∷ 0 ∷ 8 ∷ 0 ∷ 0 ∷ 0 ∷ 2 ∷ 0 ∷ 0 ∷ 0 ∷ 9 ∷ 0 ∷ 0 ∷ 0 ∷ []) ≡ alike
unfolding restored_upto is_told entry_for first_below record_of staying put_back low_first
alike_restored = refl
