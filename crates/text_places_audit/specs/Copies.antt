-- S-104: which records of a store are copies: one definition for both forms of a record. Assumes nothing.
use Rattle.std.specs.Prelude.{◌≡◌, Bool, not, List, ℕ, eqb, ltb}
use Rattle.laws.specs.Pick.{both}
use Rattle.laws.specs.Every.{same}
use Rattle.laws.specs.First.{first_below}
use Rattle.bcn_spec.specs.Answers.{done}
use Rattle.bc6h_spec.specs.Fields.{mode_of}
use Rattle.store_faulty.specs.Faulty.{RecordForm}

-- S-104: record n is record `earlier` once more: neither is refused or reserved, and they have the same format and the same sixteen block bytes.
-- Their tile numbers and places may differ.
pub record RepeatsIn (form : RecordForm) (store : List ℕ) (n earlier : ℕ) : Type 0 where
  pub unrefused : form.refusal store n ≡ done
  pub earlier_unrefused : form.refusal store earlier ≡ done
  pub same_format : form.format store n ≡ form.format store earlier
  pub unreserved : mode_of (form.block store n) ≡ 0 → ⊥
  pub same_bytes : form.block store n ≡ form.block store earlier

-- the same by computing
unfoldable pub repeats_in : RecordForm → List ℕ → ℕ → ℕ → Bool
repeats_in form store n earlier =
    both (eqb (form.refusal store n) done)
    (both (eqb (form.refusal store earlier) done)
    (both (eqb (form.format store n) (form.format store earlier))
    (both (not (eqb (mode_of (form.block store n)) 0)) (same (form.block store n) (form.block store earlier)))))

-- S-104: the first record that record n repeats; n where there is none.
unfoldable pub first_in : RecordForm → List ℕ → ℕ → ℕ
first_in form store n = first_below (repeats_in form store n) n

unfoldable pub is_copy : RecordForm → List ℕ → ℕ → Bool
is_copy form store n = ltb (first_in form store n) n
