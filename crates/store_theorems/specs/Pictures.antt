-- S-46: what a clean-up keeps of the pictures of a store. Assumes nothing.
use Rattle.std.specs.Prelude.{◌≡◌, ◌⊎◌, List, ℕ, ◌<◌}
use Rattle.bcn_spec.specs.Answers.{done}
use Rattle.bc6h_spec.specs.Fields.{mode_of}
use Rattle.store_records.specs.Store.{records_in, format_of, block_of, Unrefused}
use Rattle.store_spec.specs.Shown.{picture_at, Reserved}
use Rattle.store_clean.specs.declared.Cleaned.{Cleaned}
use Rattle.store_clean.specs.Clean.{CleanedInto}
use Rattle.store_clean.specs.Theorems.{cleaned_bytes, StaysWritten}

-- A record of `bytes` is not refused and has the format, the mode and the 48 values of record n of the store.
pub record ShownBy (store : List ℕ) (n : ℕ) (bytes : List ℕ) : Type 0 where
  pub place : ℕ
  pub unrefused : Unrefused bytes place
  pub same_format : format_of bytes place ≡ format_of store n
  pub same_mode : mode_of (block_of bytes place) ≡ mode_of (block_of store n)
  pub same_values : picture_at bytes place ≡ picture_at store n

-- The cleaned store still shows every record that is not refused.
abbrev pub EveryPictureShown : Type 0
EveryPictureShown = (store lent after : List ℕ) (r : Cleaned) → CleanedInto store lent r after → r.answer ≡ done
    → (n : ℕ) → Unrefused store n → ShownBy store n (cleaned_bytes r after)

-- S-45: a record that is refused, or whose mode is reserved, stays byte for byte.
abbrev pub FaultyStay : Type 0
FaultyStay = (store lent after : List ℕ) (r : Cleaned) → CleanedInto store lent r after → r.answer ≡ done
    → (n : ℕ) → n < records_in store → (Unrefused store n → ⊥) ⊎ Reserved store n → StaysWritten store r after n
