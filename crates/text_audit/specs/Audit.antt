-- S-74, S-88: what the audit program prints of a store: a line that names the columns, a line a twin with its verdict, and a last line with the
-- counts. Assumes nothing.
use Rattle.std.specs.Prelude.{◌≡◌, Bool, not, List, [], ◌∷◌, ◌++◌, ℕ, zero, suc, ◌+◌, ◌≤◌, eqb, length}
use Rattle.laws.specs.Pick.{pick, both}
use Rattle.store_records.specs.Store.{records_in, tile_at, most_records}
use Rattle.store_spec.specs.Twins.{twin_mark, first_twin, mark_at, list_refusal}
use Rattle.store_covered.specs.CleanUp.{covered, by_demand_3}
use Rattle.store_clean.specs.Clean.{first_of, goes}
use Rattle.store_faulty.specs.declared.FaultCounts.{FaultCounts}
use Rattle.store_faulty.specs.Faulty.{plain_form, counts_of}
use Rattle.text.specs.Text.{line_feed, decimal, field, refusal_line, lines_to}
use Rattle.text_audit.specs.declared.Finding.{Finding}

-- the record that stays beside a twin: where the clean-up removes the twin the one whose copy it is, and else the first that it looks like
unfoldable pub stays_for : List ℕ → ℕ → ℕ
stays_for store n = pick (goes store n) (first_of store n) (first_twin store n)

-- what is told of a twin: the record that stays, whether the twin is its copy, whether the copies theorem covers the two, and whether
-- demand 3 alone does
unfoldable pub finding_of : List ℕ → ℕ → Finding
finding_of store n = record {
  stays = stays_for store n;
  copy = goes store n;
  covered = covered store n (stays_for store n);
  by_demand_3 = by_demand_3 store n (stays_for store n);
}

-- ---- a line

-- `record tile stays its-tile verdict theorem`
unfoldable pub columns_line : List ℕ
columns_line =
    114 ∷ 101 ∷ 99 ∷ 111 ∷ 114 ∷ 100 ∷ 32 ∷ 116 ∷ 105 ∷ 108 ∷ 101 ∷ 32 ∷ 115 ∷ 116 ∷ 97 ∷ 121 ∷ 115 ∷ 32 ∷ 105 ∷ 116 ∷ 115 ∷ 45 ∷ 116 ∷ 105 ∷ 108 ∷ 101 ∷ 32 ∷ 118 ∷ 101 ∷ 114 ∷ 100 ∷ 105 ∷ 99 ∷ 116 ∷ 32 ∷ 116 ∷ 104 ∷ 101 ∷ 111 ∷ 114 ∷ 101 ∷ 109 ∷ 10 ∷ []

-- number and tile of the record, and of the one that stays
unfoldable pub pair_of : List ℕ → ℕ → ℕ → List ℕ
pair_of store n stays = field n ++ field (tile_at store n) ++ field stays ++ field (tile_at store stays)

-- `copy ` or `alike `
unfoldable pub verdict_word : Bool → List ℕ
verdict_word test = pick test (99 ∷ 111 ∷ 112 ∷ 121 ∷ 32 ∷ []) (97 ∷ 108 ∷ 105 ∷ 107 ∷ 101 ∷ 32 ∷ [])

-- `covered` or `-`, and the end of the line
unfoldable pub cover_word : Bool → List ℕ
cover_word test = pick test (99 ∷ 111 ∷ 118 ∷ 101 ∷ 114 ∷ 101 ∷ 100 ∷ 10 ∷ []) (45 ∷ 10 ∷ [])

unfoldable pub twin_line : List ℕ → ℕ → Finding → List ℕ
twin_line store n finding = pair_of store n finding.stays ++ verdict_word finding.copy ++ cover_word finding.covered

abbrev pub is_twin : List ℕ → ℕ → Bool
is_twin store n = eqb (mark_at store n) twin_mark

-- the line of a record that is a twin; another has none
unfoldable pub audit_line : List ℕ → ℕ → List ℕ
audit_line store n = pick (is_twin store n) (twin_line store n (finding_of store n)) []

abbrev pub audit_lines : List ℕ → ℕ → List ℕ
audit_lines store = lines_to (audit_line store)

-- ---- the counts

-- how many of the first records are twins of which a test holds
unfoldable pub twins_with : List ℕ → (Finding → Bool) → ℕ → ℕ
twins_with store test zero = 0
twins_with store test (suc n) = twins_with store test n + pick (both (is_twin store n) (test (finding_of store n))) 1 0

abbrev pub is_copy : Finding → Bool
is_copy finding = finding.copy

abbrev pub is_alike : Finding → Bool
is_alike finding = not finding.copy

abbrev pub is_covered : Finding → Bool
is_covered finding = finding.covered

abbrev pub is_before : Finding → Bool
is_before finding = finding.by_demand_3

-- `damaged `, ` refused `
unfoldable pub fault_words : FaultCounts → List ℕ
fault_words faults =
    100 ∷ 97 ∷ 109 ∷ 97 ∷ 103 ∷ 101 ∷ 100 ∷ 32 ∷ [] ++ decimal faults.damaged
    ++ (32 ∷ 114 ∷ 101 ∷ 102 ∷ 117 ∷ 115 ∷ 101 ∷ 100 ∷ 32 ∷ [] ++ decimal faults.refused)

-- ` copies `, ` alike `, ` covered `, ` before `
unfoldable pub tally_line : FaultCounts → ℕ → ℕ → ℕ → ℕ → List ℕ
tally_line faults copies alike covered before =
    fault_words faults ++ (32 ∷ 99 ∷ 111 ∷ 112 ∷ 105 ∷ 101 ∷ 115 ∷ 32 ∷ [] ++ decimal copies)
    ++ (32 ∷ 97 ∷ 108 ∷ 105 ∷ 107 ∷ 101 ∷ 32 ∷ [] ++ decimal alike)
    ++ (32 ∷ 99 ∷ 111 ∷ 118 ∷ 101 ∷ 114 ∷ 101 ∷ 100 ∷ 32 ∷ [] ++ decimal covered)
    ++ (32 ∷ 98 ∷ 101 ∷ 102 ∷ 111 ∷ 114 ∷ 101 ∷ 32 ∷ [] ++ decimal before)
    ++ line_feed

-- the records that are damaged and that are refused; the twins that are copies, that only look alike, that the copies theorem covers, and
-- that demand 3 alone covers
unfoldable pub tally_of : List ℕ → ℕ → List ℕ
tally_of store count =
    tally_line (counts_of plain_form store) (twins_with store is_copy count) (twins_with store is_alike count) (twins_with store is_covered count) (twins_with store is_before count)

-- ---- the whole

abbrev pub audit_at : ℕ → List ℕ → List ℕ
audit_at zero store = columns_line ++ (audit_lines store (records_in store) ++ tally_of store (records_in store))
audit_at (suc number) store = refusal_line (suc number)

unfoldable pub audit_of : List ℕ → List ℕ
audit_of store = audit_at (list_refusal (length store) most_records) store

-- The counts over the first n records, as a loop has them.
pub record Tallied (store : List ℕ) (n copies alike covered before : ℕ) : Type 0 where
  pub copies_is : copies ≡ twins_with store is_copy n
  pub alike_is : alike ≡ twins_with store is_alike n
  pub covered_is : covered ≡ twins_with store is_covered n
  pub before_is : before ≡ twins_with store is_before n
  pub few : (copies ≤ n) × (alike ≤ n) × (covered ≤ n) × (before ≤ n)
