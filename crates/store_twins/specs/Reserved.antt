-- S-42: a reserved record has no twin and is none. Assumes nothing.
use Rattle.std.specs.Prelude.{◌≡◌, List, ℕ, ◌<◌, get_or}
use Rattle.bcn_spec.specs.Answers.{done}
use Rattle.store_records.specs.Store.{records_in, Unrefused}
use Rattle.store_spec.specs.Shown.{Reserved}
use Rattle.store_spec.specs.declared.TwinList.{TwinList}
use Rattle.store_spec.specs.Twins.{Twin, kept_mark, twin_mark, Listed}

-- S-42, S-43: an unrefused reserved record is kept. Refused or not, it is never marked a twin, and no record is a twin of it.
pub record Alone (store after : List ℕ) (n : ℕ) : Type 0 where
  pub kept : Unrefused store n → get_or after n 0 ≡ kept_mark
  pub no_twin : get_or after n 0 ≡ twin_mark → ⊥
  pub has_none : (later : ℕ) (twin : Twin store later) → twin.earlier ≡ n → ⊥

-- Whatever the twin list did, so it is of every reserved record.
abbrev pub ReservedAlone : Type 0
ReservedAlone = (store lent after : List ℕ) (r : TwinList) → Listed store lent r after → r.answer ≡ done → (n : ℕ) → n < records_in store
    → Reserved store n → Alone store after n
