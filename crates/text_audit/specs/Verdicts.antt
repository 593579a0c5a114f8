-- S-88: what the audit's verdicts promise beside the clean-up. Assumes nothing.
use Rattle.std.specs.Prelude.{◌≡◌, Bool, true, false, List, ℕ, ◌<◌, length}
use Rattle.laws.specs.Pick.{both}
use Rattle.bcn_spec.specs.Answers.{done}
use Rattle.store_records.specs.Store.{records_in, most_records}
use Rattle.store_spec.specs.Twins.{list_refusal}
use Rattle.store_clean.specs.declared.Cleaned.{Cleaned}
use Rattle.store_clean.specs.Clean.{Repeats, goes, CleanedInto}
use Rattle.text_audit.specs.Audit.{stays_for, finding_of, is_twin, twins_with, is_copy}

-- a store that is not refused
abbrev pub NotRefused : List ℕ → Type 0
NotRefused store = list_refusal (length store) most_records ≡ done

-- record n has a line with the verdict `copy`
abbrev pub told_copy : List ℕ → ℕ → Bool
told_copy store n = both (is_twin store n) (finding_of store n).copy

-- A record is told as a copy exactly where the clean-up removes it.
abbrev pub CopiesGo : Type 0
CopiesGo = (store : List ℕ) → NotRefused store → (n : ℕ) → n < records_in store → told_copy store n ≡ goes store n

-- And as many are counted as copies as any clean-up of the store counts as removed.
abbrev pub CopiesRemoved : Type 0
CopiesRemoved = (store lent after : List ℕ) (r : Cleaned) → CleanedInto store lent r after → r.answer ≡ done → twins_with store is_copy (records_in store) ≡ r.removed

-- The record that is told beside a twin is an earlier one that stays; beside a copy it has the same format and the same sixteen bytes.
pub record Beside (store : List ℕ) (n : ℕ) : Type 0 where
  pub before : stays_for store n < n
  pub stays : goes store (stays_for store n) ≡ false
  pub copy_of : (finding_of store n).copy ≡ true → Repeats store n (stays_for store n)

abbrev pub BesideStays : Type 0
BesideStays = (store : List ℕ) → NotRefused store → (n : ℕ) → n < records_in store → is_twin store n ≡ true → Beside store n

-- A twin that only looks alike is never told as covered: where the copies theorem speaks, the bytes are the same.
abbrev pub AlikeUncovered : Type 0
AlikeUncovered = (store : List ℕ) (n : ℕ) → is_twin store n ≡ true → (finding_of store n).copy ≡ false → (finding_of store n).covered ≡ false
