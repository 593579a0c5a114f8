-- S-74, S-104: what the audit of a store of records with a place prints: a line that names the columns, a line a copy with both places, and a last
-- line with the counts. Assumes nothing.
use Rattle.std.specs.Prelude.{List, [], ◌∷◌, ◌++◌, ℕ, zero, suc, length}
use Rattle.laws.specs.Pick.{pick}
use Rattle.probe_places.specs.Places.{places_in, place_in}
use Rattle.store_faulty.specs.declared.FaultCounts.{FaultCounts}
use Rattle.store_faulty.specs.Faulty.{placed_form, store_refusal, how_many, counts_of}
use Rattle.text.specs.Text.{blank, line_feed, decimal, refusal_line, lines_to}
use Rattle.text_audit.specs.Audit.{fault_words}
use Rattle.text_places.specs.Lines.{record_words, place_words}
use Rattle.text_places_audit.specs.Copies.{first_in, is_copy}

-- `record tile face column row first its-tile its-face its-column its-row`
unfoldable pub columns_line : List ℕ
columns_line =
    114 ∷ 101 ∷ 99 ∷ 111 ∷ 114 ∷ 100 ∷ 32 ∷ 116 ∷ 105 ∷ 108 ∷ 101 ∷ 32 ∷ 102 ∷ 97 ∷ 99 ∷ 101 ∷ 32 ∷ 99 ∷ 111 ∷ 108 ∷ 117 ∷ 109 ∷ 110 ∷ 32 ∷ 114 ∷ 111 ∷ 119 ∷ 32 ∷ 102 ∷ 105 ∷ 114 ∷ 115 ∷ 116 ∷ 32 ∷ 105 ∷ 116 ∷ 115 ∷ 45 ∷ 116 ∷ 105 ∷ 108 ∷ 101 ∷ 32 ∷ 105 ∷ 116 ∷ 115 ∷ 45 ∷ 102 ∷ 97 ∷ 99 ∷ 101 ∷ 32 ∷ 105 ∷ 116 ∷ 115 ∷ 45 ∷ 99 ∷ 111 ∷ 108 ∷ 117 ∷ 109 ∷ 110 ∷ 32 ∷ 105 ∷ 116 ∷ 115 ∷ 45 ∷ 114 ∷ 111 ∷ 119 ∷ 10 ∷ []

-- S-104: number, tile, face, column and row of a record.
unfoldable pub where_of : List ℕ → ℕ → List ℕ
where_of store n = record_words store n ++ place_words (place_in store n)

-- S-104: the copy, and the first record that it repeats.
unfoldable pub copy_line : List ℕ → ℕ → ℕ → List ℕ
copy_line store n first = where_of store n ++ blank ++ where_of store first ++ line_feed

-- a record that is no copy has no line
unfoldable pub line_of : List ℕ → ℕ → List ℕ
line_of store n = pick (is_copy placed_form store n) (copy_line store n (first_in placed_form store n)) []

abbrev pub copy_lines : List ℕ → ℕ → List ℕ
copy_lines store = lines_to (line_of store)

-- ` copies `
unfoldable pub tally_line : FaultCounts → ℕ → List ℕ
tally_line faults copies = fault_words faults ++ (32 ∷ 99 ∷ 111 ∷ 112 ∷ 105 ∷ 101 ∷ 115 ∷ 32 ∷ [] ++ decimal copies) ++ line_feed

-- S-104: how many records are damaged, refused and copies.
unfoldable pub tally_of : List ℕ → ℕ → List ℕ
tally_of store count = tally_line (counts_of placed_form store) (how_many (is_copy placed_form store) count)

abbrev pub audit_at : ℕ → List ℕ → List ℕ
audit_at zero store = columns_line ++ (copy_lines store (places_in store) ++ tally_of store (places_in store))
audit_at (suc number) store = refusal_line (suc number)

unfoldable pub audit_of : List ℕ → List ℕ
audit_of store = audit_at (store_refusal placed_form (length store)) store
