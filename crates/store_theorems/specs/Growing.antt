-- S-51: a store to which records are appended: what was said of the earlier records stays so. Assumes nothing.
use Rattle.std.specs.Prelude.{◌≡◌, List, ◌++◌, ℕ, ◌*◌, ◌%◌, ◌≤◌, ◌<◌, length, get_or, take}
use Rattle.bcn_spec.specs.Answers.{done}
use Rattle.store_records.specs.Store.{record_size, store_limit, records_in}
use Rattle.store_spec.specs.declared.TwinList.{TwinList}
use Rattle.store_spec.specs.Twins.{first_twin, mark_at, Listed}
use Rattle.store_clean.specs.declared.Cleaned.{Cleaned}
use Rattle.store_clean.specs.Clean.{first_of, goes, CleanedInto}
use Rattle.store_clean.specs.Theorems.{cleaned_bytes}

-- ---- record by record

-- a store of whole records that is not too long
pub record WholeStore (store : List ℕ) : Type 0 where
  pub fits : length store ≤ store_limit
  pub even : length store % record_size ≡ 0

-- Both stores have the same mark for record n, the same first record that it looks like, the same record that stays for it, and remove it or
-- keep it alike.
pub record SameChoice (store longer : List ℕ) (n : ℕ) : Type 0 where
  pub same_mark : mark_at longer n ≡ mark_at store n
  pub same_twin : first_twin longer n ≡ first_twin store n
  pub same_first : first_of longer n ≡ first_of store n
  pub same_removal : goes longer n ≡ goes store n

-- Appended records change nothing of the earlier ones.
abbrev pub Appended : Type 0
Appended = (store more : List ℕ) → WholeStore store → WholeStore (store ++ more) → (n : ℕ) → n < records_in store → SameChoice store (store ++ more) n

-- ---- call by call

-- A done twin list of the longer store has the marks of the store's, and goes on from there.
abbrev pub MarksGrow : Type 0
MarksGrow = (store more : List ℕ) (room marks : List ℕ) (list : TwinList) → Listed store room list marks → list.answer ≡ done
    → (wide later : List ℕ) (next : TwinList) → Listed (store ++ more) wide next later → next.answer ≡ done
    → (n : ℕ) → n < records_in store → get_or later n 0 ≡ get_or marks n 0

-- A done clean-up of the longer store begins with the cleaned store.
abbrev pub CleanedGrows : Type 0
CleanedGrows = (store more : List ℕ) (lent after : List ℕ) (r : Cleaned) → CleanedInto store lent r after → r.answer ≡ done
    → (wide later : List ℕ) (s : Cleaned) → CleanedInto (store ++ more) wide s later → s.answer ≡ done
    → take (r.kept * record_size) (cleaned_bytes s later) ≡ cleaned_bytes r after

-- S-90: Cleaning every night is cleaning once: appended to a cleaned store and cleaned again, the records give the same bytes as the whole store
-- cleaned at the end.
abbrev pub Nightly : Type 0
Nightly = (store more : List ℕ) (lent after : List ℕ) (r : Cleaned) → CleanedInto store lent r after → r.answer ≡ done
    → (wide later : List ℕ) (s : Cleaned) → CleanedInto (store ++ more) wide s later → s.answer ≡ done
    → (room last : List ℕ) (t : Cleaned) → CleanedInto (cleaned_bytes r after ++ more) room t last → t.answer ≡ done
    → cleaned_bytes t last ≡ cleaned_bytes s later
