-- S-45, S-47, S-48, S-87: what the exports of a clean-up and of the way back answer: the calls' own answers, packed into one word. Assumes nothing.
use Rattle.std.specs.Prelude.{◌≡◌, List, ℕ, ◌+◌, ◌*◌, length}
use Rattle.store_clean.specs.declared.Cleaned.{Cleaned}
use Rattle.store_clean.specs.Clean.{clean_refusal, answer_at, bytes_at}
use Rattle.store_receipt.specs.Receipt.{receipt_refusal, paper_at}
use Rattle.store_restore.specs.declared.Restored.{Restored}
use Rattle.store_restore.specs.Restore.{total_of, restore_refusal, restored_at}
use Rattle.store_restore.specs.Restore as restore

-- S-45, S-87: the number in the low byte; records that stay and removed ones in the two sixteen-bit fields above the lowest
abbrev pub clean_word : Cleaned → ℕ
clean_word cleaned = cleaned.answer + cleaned.kept * 0x10000 + cleaned.removed * 0x100000000

-- The clean-up: its answer in one word, and the lent bytes as the call leaves them.
pub record CleanCalled (store lent : List ℕ) (r : ℕ) (after : List ℕ) : Type 0 where
  pub answers : r ≡ clean_word (answer_at (clean_refusal (length store) (length lent)) store)
  pub holds : after ≡ bytes_at (clean_refusal (length store) (length lent)) store lent

-- S-47, S-87: the clean-up with a receipt: the same word, and both lent places as the call leaves them.
pub record ReceiptCalled (store lent paper : List ℕ) (r : ℕ) (after written : List ℕ) : Type 0 where
  pub answers : r ≡ clean_word (answer_at (receipt_refusal (length store) (length lent) (length paper)) store)
  pub holds : after ≡ bytes_at (receipt_refusal (length store) (length lent) (length paper)) store lent
  pub tells : written ≡ paper_at (receipt_refusal (length store) (length lent) (length paper)) store paper

-- S-48, S-87: the number in the low byte, the restored records in bits 16 to 31
abbrev pub restored_word : Restored → ℕ
restored_word restored = restored.answer + restored.records * 0x10000

-- S-48, S-87: the way back: its answer in one word, and the lent bytes as the call leaves them.
pub record RestoreCalled (cleaned receipt lent : List ℕ) (r : ℕ) (after : List ℕ) : Type 0 where
  pub answers : r ≡ restored_word (restored_at (restore_refusal cleaned receipt (length lent)) (total_of cleaned receipt))
  pub holds : after ≡ restore.bytes_at (restore_refusal cleaned receipt (length lent)) cleaned receipt lent
