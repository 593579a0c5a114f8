-- S-74: what the program `restoring` writes of its input: one byte, the answer, and where that is 0 the restored store. Assumes nothing.
use Rattle.std.specs.Prelude.{◌≡◌, Bool, List, [], ◌∷◌, ◌++◌, ℕ, zero, suc, ◌+◌, ◌*◌, ◌/◌, ◌%◌, ◌≤◌, ltb, length, take, drop}
use Rattle.laws.specs.Checks.{first_met}
use Rattle.bcn_spec.specs.Answers.{done, long_store, bad_receipt}
use Rattle.raw_bytes.specs.Bytes.{low_first}
use Rattle.store_records.specs.Store.{record_size, store_limit, most_records}
use Rattle.store_clean.specs.Clean.{cleaned_of}
use Rattle.store_receipt.specs.Receipt.{entry_size, receipt_of}
use Rattle.store_restore.specs.Restore.{restore_refusal, restored_of}

-- ---- the input: the length of the cleaned store in 4 bytes, low byte first; the cleaned store; the receipt

abbrev pub length_size : ℕ
length_size = 4

unfoldable pub cleaned_length : List ℕ → ℕ
cleaned_length input = low_first input 0 4

unfoldable pub cleaned_part : List ℕ → List ℕ
cleaned_part input = take (cleaned_length input) (drop length_size input)

unfoldable pub receipt_part : List ℕ → List ℕ
receipt_part input = drop (length_size + cleaned_length input) input

-- An input that ends before its receipt begins has none that fits, 25; a length above that of any store is 5, whatever follows.
abbrev pub input_checks : List ℕ → List (Bool × ℕ)
input_checks input =
    (ltb (length input) length_size, bad_receipt) ∷
    (ltb store_limit (cleaned_length input), long_store) ∷
    (ltb (length input) (length_size + cleaned_length input), bad_receipt) ∷ []

unfoldable pub input_refusal : List ℕ → ℕ
input_refusal input = first_met (input_checks input)

-- ---- the output

-- the answer, and behind it the store where the two parts have one
abbrev pub answered_at : ℕ → List ℕ → List ℕ → List ℕ
answered_at zero cleaned receipt = done ∷ restored_of cleaned receipt
answered_at (suc number) cleaned receipt = suc number ∷ []

-- the call is given room for the largest store
unfoldable pub restored_output : List ℕ → List ℕ → List ℕ
restored_output cleaned receipt = answered_at (restore_refusal cleaned receipt store_limit) cleaned receipt

abbrev pub output_at : ℕ → List ℕ → List ℕ
output_at zero input = restored_output (cleaned_part input) (receipt_part input)
output_at (suc number) input = suc number ∷ []

unfoldable pub restoring_output : List ℕ → List ℕ
restoring_output input = output_at (input_refusal input) input

-- ---- how much of an input is read

-- the longest input whose receipt may have no more entries than a store has records
abbrev pub longest_input : ℕ
longest_input = length_size + store_limit + most_records * entry_size + 7

-- one byte more is read: enough to tell that one is too long
abbrev pub read_limit : ℕ
read_limit = longest_input + 1

-- No byte past those makes a difference.
abbrev pub ReadEnough : Type 0
ReadEnough = (input : List ℕ) → restoring_output (take read_limit input) ≡ restoring_output input

-- ---- a clean-up is undone

-- a number below 2^32 in four bytes, low byte first
abbrev pub four_bytes : ℕ → List ℕ
four_bytes n = n % 0x100 ∷ n / 0x100 % 0x100 ∷ n / 0x10000 % 0x100 ∷ n / 0x1000000 ∷ []

-- the input of a cleaned store and a receipt
abbrev pub input_of : List ℕ → List ℕ → List ℕ
input_of cleaned receipt = four_bytes (length cleaned) ++ (cleaned ++ receipt)

-- S-49, S-74: of every store that a clean-up takes: handed the cleaned store and the receipt, the program writes the answer 0 and the same store.
abbrev pub ProgramUndoes : Type 0
ProgramUndoes = (store : List ℕ) → length store ≤ store_limit → length store % record_size ≡ 0
    → restoring_output (input_of (cleaned_of store) (receipt_of store)) ≡ done ∷ store
