-- S-48: a store from its cleaned store and the receipt: which receipts fit, the bytes, and what the call answers. Assumes nothing.
use Rattle.std.specs.Prelude.{◌≡◌, Bool, not, List, [], ◌∷◌, ◌++◌, ℕ, zero, suc, ◌+◌, ◌*◌, ◌%◌, ◌≤◌, ◌<◌, eqb, ltb, length, take, drop}
use Rattle.std.proofs.Math.Seq.{paste}
use Rattle.laws.specs.Pick.{pick, both}
use Rattle.laws.specs.Checks.{first_met, ifDone}
use Rattle.laws.specs.Every.{below}
use Rattle.laws.specs.First.{first_below}
use Rattle.bcn_spec.specs.Answers.{done, short_output, long_store, uneven_store, bad_receipt}
use Rattle.store_records.specs.Store.{record_size, store_limit, records_in, most_records}
use Rattle.store_clean.specs.Clean.{record_of, staying}
use Rattle.store_receipt.specs.Receipt.{entry_size, entries_in, removed_number, stays_at, tile_bytes}
use Rattle.store_restore.specs.declared.Restored.{Restored}

-- how many records the restored store has: those of the cleaned store and one for each entry
abbrev pub total_of : List ℕ → List ℕ → ℕ
total_of cleaned receipt = records_in cleaned + entries_in receipt

-- ---- which receipts fit

-- the least number that entry e may have: one above that of the entry before
abbrev pub least_at : List ℕ → ℕ → ℕ
least_at receipt zero = 0
least_at receipt (suc e) = removed_number receipt e + 1

-- an entry fits if its number is above that of the entry before and below the total, and the record that stays is below its number
unfoldable pub entry_fits : List ℕ → ℕ → ℕ → Bool
entry_fits receipt total e =
    both (not (ltb (removed_number receipt e) (least_at receipt e))) (both (ltb (removed_number receipt e) total) (ltb (stays_at receipt e) (removed_number receipt e)))

unfoldable pub receipt_fits : List ℕ → ℕ → Bool
receipt_fits receipt total = both (eqb (length receipt % entry_size) 0) (below (entry_fits receipt total) (entries_in receipt))

-- 5 (the cleaned store is longer than 48,000 bytes, or there are more than 2,000 records in all), 6, 25, 3: the first that is met
abbrev pub restore_checks : List ℕ → List ℕ → ℕ → List (Bool × ℕ)
restore_checks cleaned receipt room =
    (ltb store_limit (length cleaned), long_store) ∷
    (ltb most_records (total_of cleaned receipt), long_store) ∷
    (not (eqb (length cleaned % record_size) 0), uneven_store) ∷
    (not (receipt_fits receipt (total_of cleaned receipt)), bad_receipt) ∷
    (ltb room (total_of cleaned receipt * record_size), short_output) ∷ []

unfoldable pub restore_refusal : List ℕ → List ℕ → ℕ → ℕ
restore_refusal cleaned receipt room = first_met (restore_checks cleaned receipt room)

-- ---- the bytes

-- entry e has number n
abbrev pub is_for : List ℕ → ℕ → ℕ → Bool
is_for receipt n e = eqb (removed_number receipt e) n

-- the first such entry; the number of entries where there is none
unfoldable pub entry_for : List ℕ → ℕ → ℕ
entry_for receipt n = first_below (is_for receipt n) (entries_in receipt)

-- some entry has number n
unfoldable pub is_told : List ℕ → ℕ → Bool
is_told receipt n = ltb (entry_for receipt n) (entries_in receipt)

-- the record that an entry puts back: its tile, and bytes 4 to 23 of the record that stays, which is among those restored before it
unfoldable pub put_back : List ℕ → List ℕ → ℕ → List ℕ
put_back before receipt e = tile_bytes receipt e ++ take 20 (drop (stays_at receipt e * record_size + 4) before)

-- The first n records, in order: record k is what the entry of number k puts back; where there is none, it is the next record of the cleaned
-- store, whose records were taken so far for the numbers below k that have no entry.
unfoldable pub restored_upto : List ℕ → List ℕ → ℕ → List ℕ
restored_upto cleaned receipt zero = []
restored_upto cleaned receipt (suc n) =
    restored_upto cleaned receipt n
    ++ pick (is_told receipt n) (put_back (restored_upto cleaned receipt n) receipt (entry_for receipt n)) (record_of cleaned (staying (is_told receipt) n))

abbrev pub restored_of : List ℕ → List ℕ → List ℕ
restored_of cleaned receipt = restored_upto cleaned receipt (total_of cleaned receipt)

-- ---- the call

-- the answer's number, and how many records were restored: none on a refusal
abbrev pub restored_at : ℕ → ℕ → Restored
restored_at zero count = record { answer = done; records = count }
restored_at (suc number) count = record { answer = suc number; records = 0 }

-- the store at the front of the lent bytes, whose rest stays as it was; a refusal changes no byte
abbrev pub bytes_at : ℕ → List ℕ → List ℕ → List ℕ → List ℕ
bytes_at number cleaned receipt lent = ifDone number (restored_of cleaned receipt ++ drop (total_of cleaned receipt * record_size) lent) lent

-- The answer and the lent bytes, for every input.
pub record RestoredInto (cleaned receipt lent : List ℕ) (r : Restored) (after : List ℕ) : Type 0 where
  pub answers : r ≡ restored_at (restore_refusal cleaned receipt (length lent)) (total_of cleaned receipt)
  pub holds : after ≡ bytes_at (restore_refusal cleaned receipt (length lent)) cleaned receipt lent

-- ---- one record put back, as the code does it: the tile first, then the rest from an earlier record of the lent bytes

abbrev pub with_tile : List ℕ → ℕ → List ℕ → ℕ → List ℕ
with_tile receipt e lent n = paste lent (n * record_size) (drop (e * entry_size + 4) receipt) 4

unfoldable pub put_into : List ℕ → ℕ → List ℕ → ℕ → List ℕ
put_into receipt e lent n =
    paste (with_tile receipt e lent n) (n * record_size + 4) (drop (stays_at receipt e * record_size + 4) (with_tile receipt e lent n)) 20

pub record PutBack (receipt : List ℕ) (e : ℕ) (lent : List ℕ) (n : ℕ) : Type 0 where
  pub there : e < entries_in receipt
  pub before : stays_at receipt e < n
  pub room : n * record_size + record_size ≤ length lent
