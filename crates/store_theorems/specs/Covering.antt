-- S-90: a clean-up beside the twin list of the same store. Assumes nothing.
use Rattle.std.specs.Prelude.{◌≡◌, Bool, List, ℕ, ◌+◌, ◌<◌, eqb, get_or}
use Rattle.bcn_spec.specs.Answers.{done}
use Rattle.store_records.specs.Store.{records_in}
use Rattle.store_spec.specs.declared.TwinList.{TwinList}
use Rattle.store_spec.specs.Twins.{twin_mark, first_twin, Listed}
use Rattle.store_covered.specs.CleanUp.{Covered}
use Rattle.store_clean.specs.declared.Cleaned.{Cleaned}
use Rattle.store_clean.specs.Clean.{left, CleanedInto}
use Rattle.store_clean.specs.Theorems.{cleaned_bytes}

abbrev pub twin_in : List ℕ → ℕ → Bool
twin_in marks n = eqb (get_or marks n 0) twin_mark

-- Where the copies theorem covers every twin, the cleaned store has exactly the records that the
-- list keeps and those that it calls bad, in order.
pub record AsMarked (store after marks : List ℕ) (r : Cleaned) (list : TwinList) : Type 0 where
  pub kept : r.kept ≡ list.kept + list.bad
  pub removed : r.removed ≡ list.twins
  pub same_bytes : cleaned_bytes r after ≡ left (twin_in marks) store (records_in store)

abbrev pub AllCovered : Type 0
AllCovered = (store room marks : List ℕ) (list : TwinList) → Listed store room list marks → list.answer ≡ done
    → ((n : ℕ) → n < records_in store → get_or marks n 0 ≡ twin_mark → Covered store n (first_twin store n))
    → (lent after : List ℕ) (r : Cleaned) → CleanedInto store lent r after → r.answer ≡ done → AsMarked store after marks r list
