-- S-73, S-74: what the listing program prints of a store: its lines, or that of a refused store. Assumes nothing.
use Rattle.std.specs.Prelude.{Bool, List, ◌++◌, ℕ, zero, suc, length}
use Rattle.laws.specs.Pick.{pick}
use Rattle.laws.specs.Made.{count_of}
use Rattle.store_records.specs.Store.{records_in, most_records}
use Rattle.store_spec.specs.Twins.{kept_mark, twin_mark, bad_mark, marks_of, list_refusal}
use Rattle.store_twins.specs.Strict.{strict_refusal}
use Rattle.text.specs.Text.{refusal_line}
use Rattle.text_list.specs.Lines.{lines_of, counts_line}

-- S-73: the last line has the counts.
unfoldable pub counts_of : List ℕ → List ℕ
counts_of store = counts_line (count_of kept_mark (marks_of store)) (count_of twin_mark (marks_of store)) (count_of bad_mark (marks_of store))

abbrev pub text_at : ℕ → List ℕ → List ℕ
text_at zero store = lines_of store (records_in store) ++ counts_of store
text_at (suc number) store = refusal_line (suc number)

-- the number of the twin list, or of the strict one
unfoldable pub listing_refusal : Bool → List ℕ → ℕ
listing_refusal strict store = pick strict (strict_refusal store most_records) (list_refusal (length store) most_records)

unfoldable pub listing_of : Bool → List ℕ → List ℕ
listing_of strict store = text_at (listing_refusal strict store) store
