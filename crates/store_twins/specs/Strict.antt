-- S-44: the strict twin list: a store with a damaged record is refused whole. Assumes nothing.
use Rattle.std.specs.Prelude.{◌≡◌, Bool, List, ℕ, ltb, length}
use Rattle.laws.specs.Pick.{pick, both}
use Rattle.laws.specs.First.{first_below}
use Rattle.laws.specs.Checks.{or_next}
use Rattle.bcn_spec.specs.Answers.{done, reserved_block}
use Rattle.store_records.specs.Store.{records_in, Unrefused}
use Rattle.store_spec.specs.declared.TwinList.{TwinList}
use Rattle.store_spec.specs.Shown.{Reserved, is_record, is_reserved}
use Rattle.store_spec.specs.Twins.{list_refusal, answer_at, marks_at}

-- S-44: a record is damaged when it is not refused and has a reserved mode.
pub record Damaged (store : List ℕ) (n : ℕ) : Type 0 where
  pub unrefused : Unrefused store n
  pub reserved : Reserved store n

unfoldable pub damaged : List ℕ → ℕ → Bool
damaged store n = both (is_record store n) (is_reserved store n)

-- the number of the first such record, or that of all records where there is none: so it is of a store that is too long or uneven, in
-- which the record call refuses every record
unfoldable pub first_damaged : List ℕ → ℕ
first_damaged store = first_below (damaged store) (records_in store)

-- S-44: 5, 6, 3, 12: the ordinary list's refusals come first.
abbrev pub or_damaged : ℕ → List ℕ → ℕ
or_damaged number store = or_next number (pick (ltb (first_damaged store) (records_in store)) reserved_block done)

unfoldable pub strict_refusal : List ℕ → ℕ → ℕ
strict_refusal store room = or_damaged (list_refusal (length store) room) store

-- S-44: answer and marks are the ordinary list's by this number: a refusal has its number and zero counts, and changes no mark.
pub record StrictlyListed (store lent : List ℕ) (r : TwinList) (after : List ℕ) : Type 0 where
  pub answers : r ≡ answer_at (strict_refusal store (length lent)) store
  pub holds : after ≡ marks_at (strict_refusal store (length lent)) store lent
