-- S-89: which records of a store are faulty, and why: one definition for both forms of a record. Assumes nothing.
use Rattle.std.specs.Prelude.{◌≡◌, Bool, not, List, [], ◌∷◌, ℕ, zero, suc, ◌+◌, ◌/◌, ◌%◌, ◌≤◌, eqb, ltb, length}
use Rattle.laws.specs.Pick.{pick, both}
use Rattle.laws.specs.Checks.{first_met}
use Rattle.bcn_spec.specs.Answers.{done, long_store, uneven_store, reserved_block}
use Rattle.bc6h_spec.specs.Fields.{mode_of}
use Rattle.store_records.specs.Store.{record_size, store_limit, record_refusal, tile_at, format_of, block_of}
use Rattle.probe_places.specs.Places.{place_size, place_limit, tile_in, format_in, block_in}
use Rattle.probe_places.specs.Readings.{placed_refusal}
use Rattle.store_faulty.specs.declared.FaultCounts.{FaultCounts}

-- What a form says: the bytes of a record, the most bytes of a store, and of record n why the record call refuses it, its tile,
-- its format and its block.
pub record RecordForm : Type 0 where
  pub size : ℕ
  pub limit : ℕ
  pub refusal : List ℕ → ℕ → ℕ
  pub tile : List ℕ → ℕ → ℕ
  pub format : List ℕ → ℕ → ℕ
  pub block : List ℕ → ℕ → List ℕ

abbrev pub plain_form : RecordForm
plain_form = record { size = record_size; limit = store_limit; refusal = record_refusal; tile = tile_at; format = format_of; block = block_of }

abbrev pub placed_form : RecordForm
placed_form = record { size = place_size; limit = place_limit; refusal = placed_refusal; tile = tile_in; format = format_in; block = block_in }

-- the byte 32 stands for records with a place, any other for 24-byte records
unfoldable pub form_of : ℕ → RecordForm
form_of byte = pick (eqb byte place_size) placed_form plain_form

abbrev pub count_in : RecordForm → List ℕ → ℕ
count_in form store = length store / form.size

-- 5, then 6: of a store's size
abbrev pub store_checks : RecordForm → ℕ → List (Bool × ℕ)
store_checks form size = (ltb form.limit size, long_store) ∷ (not (eqb (size % form.size) 0), uneven_store) ∷ []

unfoldable pub store_refusal : RecordForm → ℕ → ℕ
store_refusal form size = first_met (store_checks form size)

-- the record call refuses record n
unfoldable pub is_refused : RecordForm → List ℕ → ℕ → Bool
is_refused form store n = not (eqb (form.refusal store n) done)

-- record n is not refused, but its block has a reserved mode
unfoldable pub is_damaged : RecordForm → List ℕ → ℕ → Bool
is_damaged form store n = both (eqb (form.refusal store n) done) (eqb (mode_of (form.block store n)) 0)

-- why record n is faulty: 12 where it is damaged, and else the number of the record call, 0 for a sound record
unfoldable pub cause_of : RecordForm → List ℕ → ℕ → ℕ
cause_of form store n = pick (is_damaged form store n) reserved_block (form.refusal store n)

-- how many of the first numbers pass a test
unfoldable pub how_many : (ℕ → Bool) → ℕ → ℕ
how_many test zero = 0
how_many test (suc n) = how_many test n + pick (test n) 1 0

unfoldable pub counts_of : RecordForm → List ℕ → FaultCounts
counts_of form store = record {
  refused = how_many (is_refused form store) (count_in form store);
  damaged = how_many (is_damaged form store) (count_in form store);
}

-- The counts over the first n records, as a loop has them.
pub record Counted (form : RecordForm) (store : List ℕ) (n refused damaged : ℕ) : Type 0 where
  pub refused_is : refused ≡ how_many (is_refused form store) n
  pub damaged_is : damaged ≡ how_many (is_damaged form store) n
  pub few : (refused ≤ n) × (damaged ≤ n)
