-- S-49, S-50: what a clean-up with a receipt and its undoing promise together. Assumes nothing.
use Rattle.std.specs.Prelude.{◌≡◌, List, ◌++◌, ◌⊎◌, ℕ, ◌+◌, ◌*◌, ◌%◌, ◌≤◌, ◌<◌, length, take, drop}
use Rattle.bcn_spec.specs.Answers.{done}
use Rattle.raw_bytes.specs.Bytes.{low_first}
use Rattle.store_records.specs.Store.{record_size, store_limit, records_in, tile_of}
use Rattle.store_clean.specs.declared.Cleaned.{Cleaned}
use Rattle.store_clean.specs.Theorems.{cleaned_bytes}
use Rattle.store_receipt.specs.Receipt.{entry_size, ReceiptInto}
use Rattle.store_restore.specs.declared.Restored.{Restored}
use Rattle.store_restore.specs.Restore.{RestoredInto}

-- the first `removed` entries of the lent bytes
abbrev pub receipt_bytes : Cleaned → List ℕ → List ℕ
receipt_bytes r written = take (r.removed * entry_size) written

-- ---- undone

-- S-49: the call is done and gives the store back, byte for byte.
pub record SameStore (store room : List ℕ) (s : Restored) (later : List ℕ) : Type 0 where
  pub answer : s.answer ≡ done
  pub records : s.records ≡ records_in store
  pub same_bytes : later ≡ store ++ drop (length store) room

-- S-49: for every store that the clean-up takes: `restore_store`, given exactly what the clean-up wrote and room for the store, is done and gives the
-- store back, byte for byte.
abbrev pub Undone : Type 0
Undone = (store lent paper after written : List ℕ) (r : Cleaned) → ReceiptInto store lent paper r after written → r.answer ≡ done
    → (room later : List ℕ) (s : Restored) → RestoredInto (cleaned_bytes r after) (receipt_bytes r written) room s later → length store ≤ length room
    → SameStore store room s later

-- The clean-up takes every store of whole records of at most 48,000 bytes, given 24 and 8 bytes a record for the two places.
abbrev pub Taken : Type 0
Taken = (store lent paper after written : List ℕ) (r : Cleaned) → ReceiptInto store lent paper r after written
    → length store ≤ store_limit → length store % record_size ≡ 0 → length store ≤ length lent → records_in store * entry_size ≤ length paper
    → r.answer ≡ done

-- ---- no tile number is lost

-- S-50: the tile number of entry e
abbrev pub entry_tile : List ℕ → ℕ → ℕ
entry_tile receipt e = low_first receipt (e * entry_size + 4) 4

-- a record of the cleaned store has the tile number
pub record InCleaned (tile : ℕ) (r : Cleaned) (after : List ℕ) : Type 0 where
  pub place : ℕ
  pub there : place < r.kept
  pub same_tile : tile_of after place ≡ tile

-- an entry of the receipt has the tile number
pub record InReceipt (tile : ℕ) (r : Cleaned) (written : List ℕ) : Type 0 where
  pub place : ℕ
  pub there : place < r.removed
  pub same_tile : entry_tile (receipt_bytes r written) place ≡ tile

-- S-50: the tile number of every record is in the cleaned store or in the receipt.
abbrev pub NoTileLost : Type 0
NoTileLost = (store lent paper after written : List ℕ) (r : Cleaned) → ReceiptInto store lent paper r after written → r.answer ≡ done
    → (n : ℕ) → n < records_in store → InCleaned (tile_of store n) r after ⊎ InReceipt (tile_of store n) r written
