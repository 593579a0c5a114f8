-- S-45: a clean-up of a store: which records go, the bytes of those that stay, and what the call answers. Assumes nothing.
use Rattle.std.specs.Prelude.{◌≡◌, Bool, false, not, List, [], ◌++◌, ℕ, zero, suc, ◌+◌, ◌*◌, ◌/◌, ◌<◌, eqb, ltb, length, take, drop}
use Rattle.laws.specs.Pick.{pick, both}
use Rattle.laws.specs.Checks.{ifDone}
use Rattle.laws.specs.Every.{same}
use Rattle.laws.specs.First.{first_below}
use Rattle.bcn_spec.specs.Answers.{done}
use Rattle.store_records.specs.Store.{record_size, records_in, format_of, block_of, Unrefused}
use Rattle.store_spec.specs.Shown.{Reserved, is_record, is_reserved}
use Rattle.store_spec.specs.Twins.{list_refusal}
use Rattle.store_clean.specs.declared.Cleaned.{Cleaned}

-- ---- which records go

-- Record n is record `earlier` once more: neither is refused or reserved, and they have the same format and the same sixteen block bytes.
-- Their tile numbers may differ.
pub record Repeats (store : List ℕ) (n earlier : ℕ) : Type 0 where
  pub unrefused : Unrefused store n
  pub earlier_unrefused : Unrefused store earlier
  pub same_format : format_of store n ≡ format_of store earlier
  pub unreserved : Reserved store n → ⊥
  pub earlier_unreserved : Reserved store earlier → ⊥
  pub same_bytes : block_of store n ≡ block_of store earlier

-- the same by computing; a block that equals one that is not reserved is not reserved
unfoldable pub repeats : List ℕ → ℕ → ℕ → Bool
repeats store n earlier =
    both (is_record store n)
    (both (is_record store earlier)
    (both (eqb (format_of store n) (format_of store earlier)) (both (not (is_reserved store n)) (same (block_of store n) (block_of store earlier)))))

-- S-45, S-83: the first record that record n repeats; n where there is none
unfoldable pub first_of : List ℕ → ℕ → ℕ
first_of store n = first_below (repeats store n) n

-- S-45: record n is removed
unfoldable pub goes : List ℕ → ℕ → Bool
goes store n = ltb (first_of store n) n

-- In words: an earlier record that stays and that record n repeats. proofs/ shows that `goes` holds exactly where there is one.
pub record Goes (store : List ℕ) (n : ℕ) : Type 0 where
  pub earlier : ℕ
  pub before : earlier < n
  pub stays : goes store earlier ≡ false
  pub repeated : Repeats store n earlier

-- ---- the records that are left where some go

-- the 24 bytes of record n
unfoldable pub record_of : List ℕ → ℕ → List ℕ
record_of store n = take record_size (drop (n * record_size) store)

-- of the first n records, those that stay, in order and byte for byte
unfoldable pub left : (ℕ → Bool) → List ℕ → ℕ → List ℕ
left gone store zero = []
left gone store (suc n) = left gone store n ++ pick (gone n) [] (record_of store n)

-- how many of them stay, and how many go
unfoldable pub staying : (ℕ → Bool) → ℕ → ℕ
staying gone zero = 0
staying gone (suc n) = staying gone n + pick (gone n) 0 1

unfoldable pub going : (ℕ → Bool) → ℕ → ℕ
going gone zero = 0
going gone (suc n) = going gone n + pick (gone n) 1 0

abbrev pub cleaned_of : List ℕ → List ℕ
cleaned_of store = left (goes store) store (records_in store)

abbrev pub stay_count : List ℕ → ℕ
stay_count store = staying (goes store) (records_in store)

abbrev pub gone_count : List ℕ → ℕ
gone_count store = going (goes store) (records_in store)

-- ---- the call

-- S-45: 5, 6, 3, as the twin list's; 3 where the lent bytes have room for fewer records than the store has: how many stay is not known before.
abbrev pub clean_refusal : ℕ → ℕ → ℕ
clean_refusal size room = list_refusal size (room / record_size)

abbrev pub refusal : ℕ → Cleaned
refusal number = record { answer = number; kept = 0; removed = 0 }

abbrev pub answer_at : ℕ → List ℕ → Cleaned
answer_at zero store = record { answer = done; kept = stay_count store; removed = gone_count store }
answer_at (suc number) store = refusal (suc number)

-- the records that stay, at the front of the lent bytes, whose rest is as it was; a refusal changes none
abbrev pub bytes_at : ℕ → List ℕ → List ℕ → List ℕ
bytes_at number store lent = ifDone number (cleaned_of store ++ drop (stay_count store * record_size) lent) lent

pub record CleanedInto (store lent : List ℕ) (r : Cleaned) (after : List ℕ) : Type 0 where
  pub answers : r ≡ answer_at (clean_refusal (length store) (length lent)) store
  pub holds : after ≡ bytes_at (clean_refusal (length store) (length lent)) store lent
