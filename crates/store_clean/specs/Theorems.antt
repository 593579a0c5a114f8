-- S-45, S-46, S-90: what a clean-up promises beyond its statement. Assumes nothing.
use Rattle.std.specs.Prelude.{◌≡◌, true, false, List, ℕ, ◌+◌, ◌*◌, ◌<◌, get_or, take}
use Rattle.bcn_spec.specs.Answers.{done}
use Rattle.store_records.specs.Store.{record_size, records_in, format_of, block_of, Unrefused}
use Rattle.store_spec.specs.declared.TwinList.{TwinList}
use Rattle.store_spec.specs.Twins.{twin_mark, Alike, first_twin, Listed}
use Rattle.store_clean.specs.declared.Cleaned.{Cleaned}
use Rattle.store_clean.specs.Clean.{goes, Goes, record_of, staying, CleanedInto}

-- ---- what goes

-- S-45: for each record that is removed an earlier one stays, of the same format and with the same sixteen block bytes; and only such records go.
abbrev pub EachHasOne : Type 0
EachHasOne = (store : List ℕ) (n : ℕ) → goes store n ≡ true → Goes store n

abbrev pub OnlyThose : Type 0
OnlyThose = (store : List ℕ) (n : ℕ) → Goes store n → goes store n ≡ true

-- ---- what stays: the first `kept` records of the lent bytes

abbrev pub cleaned_bytes : Cleaned → List ℕ → List ℕ
cleaned_bytes r after = take (r.kept * record_size) after

-- record n of the store is record `staying .. n` of the result, byte for byte: as many stand before it as stay before it in the store
pub record StaysWritten (store : List ℕ) (r : Cleaned) (after : List ℕ) (n : ℕ) : Type 0 where
  pub there : staying (goes store) n < r.kept
  pub same_record : record_of after (staying (goes store) n) ≡ record_of store n

-- a record of the result is one record of the store that stays
pub record Source (store : List ℕ) (after : List ℕ) (k : ℕ) : Type 0 where
  pub number : ℕ
  pub inside : number < records_in store
  pub stays : goes store number ≡ false
  pub place : staying (goes store) number ≡ k
  pub same_record : record_of after k ≡ record_of store number

-- Each record that stays is there, once for each time it stood, and in order.
pub record AllThere (store : List ℕ) (r : Cleaned) (after : List ℕ) : Type 0 where
  pub written : (n : ℕ) → n < records_in store → goes store n ≡ false → StaysWritten store r after n
  pub source : (k : ℕ) → k < r.kept → Source store after k
  pub in_order : (m n : ℕ) → m < n → goes store m ≡ false → staying (goes store) m < staying (goes store) n
  pub adds_up : r.kept + r.removed ≡ records_in store

abbrev pub StaysInOrder : Type 0
StaysInOrder = (store lent after : List ℕ) (r : Cleaned) → CleanedInto store lent r after → r.answer ≡ done → AllThere store r after

-- S-46: a record of the result that has the format of record n of the store and its sixteen block bytes
pub record BlockHeld (store : List ℕ) (r : Cleaned) (after : List ℕ) (n : ℕ) : Type 0 where
  pub place : ℕ
  pub there : place < r.kept
  pub same_format : format_of after place ≡ format_of store n
  pub same_bytes : block_of after place ≡ block_of store n

-- S-46: no tile is lost: for every record of the store, removed or not, the result has one. (What is lost is a removed record's tile number.)
abbrev pub NoneLost : Type 0
NoneLost = (store lent after : List ℕ) (r : Cleaned) → CleanedInto store lent r after → r.answer ≡ done → (n : ℕ) → n < records_in store → BlockHeld store r after n

-- ---- a cleaned store

-- S-90: cleaned again it is itself: none of its records goes.
pub record Again (bytes : List ℕ) (r s : Cleaned) (after : List ℕ) : Type 0 where
  pub kept : s.kept ≡ r.kept
  pub removed : s.removed ≡ 0
  pub same_bytes : cleaned_bytes s after ≡ bytes

abbrev pub CleanAgain : Type 0
CleanAgain = (store lent after : List ℕ) (r : Cleaned) → CleanedInto store lent r after → r.answer ≡ done
    → (other later : List ℕ) (s : Cleaned) → CleanedInto (cleaned_bytes r after) other s later → s.answer ≡ done → Again (cleaned_bytes r after) r s later

-- S-90: its twins only look alike: the twin list marks a record of it as a twin only where the record that it equals has other bytes, as has every
-- earlier record of its format that is not refused.
pub record NoCopy (bytes : List ℕ) (n : ℕ) : Type 0 where
  pub before : first_twin bytes n < n
  pub looks_alike : Alike bytes n (first_twin bytes n)
  pub other_bytes : (earlier : ℕ) → earlier < n → Unrefused bytes earlier → format_of bytes n ≡ format_of bytes earlier → block_of bytes n ≡ block_of bytes earlier → ⊥

abbrev pub TwinsLeft : Type 0
TwinsLeft = (store lent after : List ℕ) (r : Cleaned) → CleanedInto store lent r after → r.answer ≡ done
    → (room marks : List ℕ) (list : TwinList) → Listed (cleaned_bytes r after) room list marks → list.answer ≡ done
    → (n : ℕ) → n < records_in (cleaned_bytes r after) → get_or marks n 0 ≡ twin_mark → NoCopy (cleaned_bytes r after) n

-- ---- beside the twin list of the store itself

-- S-90: what goes is always marked a twin
abbrev pub GoneAreTwins : Type 0
GoneAreTwins = (store room marks : List ℕ) (list : TwinList) → Listed store room list marks → list.answer ≡ done
    → (n : ℕ) → n < records_in store → goes store n ≡ true → get_or marks n 0 ≡ twin_mark
