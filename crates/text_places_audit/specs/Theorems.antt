-- S-104: what the audit of a store of records with a place promises of its copies. Assumes nothing.
use Rattle.std.specs.Prelude.{◌≡◌, true, false, List, ℕ, ◌<◌}
use Rattle.store_clean.specs.Clean.{first_of}
use Rattle.store_faulty.specs.Faulty.{RecordForm, plain_form}
use Rattle.text_places_audit.specs.Copies.{RepeatsIn, first_in, is_copy}

-- The record that is told beside a copy is an earlier one of the same format and bytes, and no copy itself.
pub record Beside (form : RecordForm) (store : List ℕ) (n : ℕ) : Type 0 where
  pub before : first_in form store n < n
  pub repeated : RepeatsIn form store n (first_in form store n)
  pub no_copy : is_copy form store (first_in form store n) ≡ false

abbrev pub CopiesBeside : Type 0
CopiesBeside = (form : RecordForm) (store : List ℕ) (n : ℕ) → is_copy form store n ≡ true → Beside form store n

-- Every record that repeats an earlier one is told.
abbrev pub AllTold : Type 0
AllTold = (form : RecordForm) (store : List ℕ) (n earlier : ℕ) → earlier < n → RepeatsIn form store n earlier → is_copy form store n ≡ true

-- Of 24-byte records the same definition gives the record that stays in a clean-up.
abbrev pub AsCleaned : Type 0
AsCleaned = (store : List ℕ) (n : ℕ) → first_in plain_form store n ≡ first_of store n
