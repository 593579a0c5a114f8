-- S-47: a clean-up with a receipt: the receipt, and what the call answers and writes. Assumes nothing.
use Rattle.std.specs.Prelude.{◌≡◌, List, [], ◌∷◌, ◌++◌, ℕ, zero, suc, ◌+◌, ◌*◌, ◌/◌, ◌%◌, ◌≤◌, ◌<◌, length, get_or, take, drop}
use Rattle.laws.specs.Pick.{pick}
use Rattle.laws.specs.Checks.{ifDone, or_next}
use Rattle.bcn_spec.specs.Answers.{done}
use Rattle.raw_bytes.specs.Bytes.{low_first}
use Rattle.store_records.specs.Store.{records_in, byte_of, most_records}
use Rattle.store_spec.specs.Twins.{list_refusal}
use Rattle.store_clean.specs.declared.Cleaned.{Cleaned}
use Rattle.store_clean.specs.Clean.{first_of, goes, gone_count, clean_refusal, answer_at, bytes_at, CleanedInto}
use Rattle.store_clean.specs.Links.{Linked}
use Rattle.store_receipt.specs.declared.Entry.{Entry}

-- ---- an entry

-- An entry has 8 bytes: 0 and 1 are the number of a removed record, low byte first; 2 and 3 the number of the record that stays for it; 4 to 7 its
-- tile, as stored. Both numbers count records of the store as it was.
abbrev pub entry_size : ℕ
entry_size = 8

-- the two bytes of a number below 65,536
abbrev pub low : ℕ → ℕ
low n = n % 0x100

abbrev pub high : ℕ → ℕ
high n = n / 0x100

-- the entry of record n
unfoldable pub entry_of : List ℕ → ℕ → List ℕ
entry_of store n =
    low n ∷ high n ∷ low (first_of store n) ∷ high (first_of store n) ∷ byte_of store n 0 ∷ byte_of store n 1 ∷ byte_of store n 2 ∷ byte_of store n 3 ∷ []

-- how a receipt is read: the number of its entries, byte k of entry e, and the entry's two numbers
abbrev pub entries_in : List ℕ → ℕ
entries_in receipt = length receipt / entry_size

abbrev pub entry_byte : List ℕ → ℕ → ℕ → ℕ
entry_byte receipt e k = get_or receipt (e * entry_size + k) 0

abbrev pub removed_number : List ℕ → ℕ → ℕ
removed_number receipt e = low_first receipt (e * entry_size) 2

abbrev pub stays_at : List ℕ → ℕ → ℕ
stays_at receipt e = low_first receipt (e * entry_size + 2) 2

abbrev pub entry_at : List ℕ → ℕ → Entry
entry_at receipt e = record { number = removed_number receipt e; stays = stays_at receipt e }

-- the four tile bytes of entry e
abbrev pub tile_bytes : List ℕ → ℕ → List ℕ
tile_bytes receipt e = take 4 (drop (e * entry_size + 4) receipt)

-- ---- the receipt

-- the entries of the removed records among the first n, in order
unfoldable pub receipt_upto : List ℕ → ℕ → List ℕ
receipt_upto store zero = []
receipt_upto store (suc n) = receipt_upto store n ++ pick (goes store n) (entry_of store n) []

abbrev pub receipt_of : List ℕ → List ℕ
receipt_of store = receipt_upto store (records_in store)

-- ---- the call

-- 5, 6 and 3 as for the clean-up; 3 also where the receipt's room is below 8 bytes a record of the store, since how many go is not known before
unfoldable pub receipt_refusal : ℕ → ℕ → ℕ → ℕ
receipt_refusal size room paper = or_next (clean_refusal size room) (list_refusal size (paper / entry_size))

-- the receipt at the front of the lent bytes, whose rest stays as it was; a refusal changes no byte
abbrev pub paper_at : ℕ → List ℕ → List ℕ → List ℕ
paper_at number store lent = ifDone number (receipt_of store ++ drop (gone_count store * entry_size) lent) lent

-- The answer, the bytes lent for the cleaned store and the bytes lent for the receipt, for every input.
pub record ReceiptInto (store lent paper : List ℕ) (r : Cleaned) (after written : List ℕ) : Type 0 where
  pub answers : r ≡ answer_at (receipt_refusal (length store) (length lent) (length paper)) store
  pub holds : after ≡ bytes_at (receipt_refusal (length store) (length lent) (length paper)) store lent
  pub tells : written ≡ paper_at (receipt_refusal (length store) (length lent) (length paper)) store paper

-- Where it is done, its answer and its cleaned bytes are those that `clean_store` promises: every theorem about a clean-up holds of it.
abbrev pub AsCleanStore : Type 0
AsCleanStore = (store lent paper after written : List ℕ) (r : Cleaned) → ReceiptInto store lent paper r after written → r.answer ≡ done
    → CleanedInto store lent r after

-- ---- what the search for the record that stays needs

-- `firsts` has for each of the first n records the record that stays for it, or the record's own number
pub record Firsts (store : List ℕ) (n : ℕ) (firsts : List ℕ) : Type 0 where
  pub first : (k : ℕ) → k < n → get_or firsts k 0 ≡ first_of store k

pub record Walk (store links firsts : List ℕ) (n : ℕ) : Type 0 where
  pub inside : n < records_in store
  pub links_room : records_in store ≤ length links
  pub firsts_room : records_in store ≤ length firsts
  pub linked : Linked store (records_in store) links
  pub known : Firsts store n firsts

-- record n is removed, and the lent bytes have room for its entry at `place`
pub record Tells (store : List ℕ) (n first : ℕ) (paper : List ℕ) (place : ℕ) : Type 0 where
  pub inside : n < records_in store
  pub few : n < most_records
  pub before : first ≤ n
  pub is_first : first ≡ first_of store n
  pub room : place * entry_size + entry_size ≤ length paper
