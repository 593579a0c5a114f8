-- S-55, S-57: the first record of a store that a check refuses, lowest first, and the number of that refusal. Assumes nothing.
use Rattle.std.specs.Prelude.{Bool, not, ℕ, zero, suc, eqb, ltb}
use Rattle.laws.specs.Pick.{pick}
use Rattle.laws.specs.First.{first_below}
use Rattle.bcn_spec.specs.Answers.{done}
use Rattle.probe_places.specs.declared.Fault.{Fault}

abbrev pub no_fault : Fault
no_fault = record { answer = done; faulty = 0 }

-- a refusal that is no record's
abbrev pub fault_alone : ℕ → Fault
fault_alone number = record { answer = number; faulty = 0 }

-- record n is refused, where `refusal` gives each record's number
unfoldable pub is_faulty : (ℕ → ℕ) → ℕ → Bool
is_faulty refusal n = not (eqb (refusal n) done)

-- the first of `count` records that is refused: its refusal's number, and its own
abbrev pub fault_at : (ℕ → ℕ) → ℕ → ℕ → Fault
fault_at refusal count first = pick (ltb first count) (record { answer = refusal first; faulty = first }) no_fault

unfoldable pub first_fault : (ℕ → ℕ) → ℕ → Fault
first_fault refusal count = fault_at refusal count (first_below (is_faulty refusal) count)

-- S-55, S-57: a check of the whole store comes before any record, and tells no record.
abbrev pub whole_first : ℕ → Fault → Fault
whole_first zero fault = fault
whole_first (suc number) fault = fault_alone (suc number)
