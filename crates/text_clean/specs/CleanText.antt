-- S-74: what the clean-up program writes of a store: a line for each record that is removed, a last line with the counts, and behind it the cleaned
-- store; or the line of a refused store alone. Assumes nothing.
use Rattle.std.specs.Prelude.{◌≡◌, List, [], ◌∷◌, ◌++◌, ℕ, zero, suc, ◌+◌, length, take}
use Rattle.laws.specs.Pick.{pick}
use Rattle.store_records.specs.Store.{store_limit, records_in, tile_at, most_records}
use Rattle.store_spec.specs.Twins.{list_refusal}
use Rattle.store_clean.specs.Clean.{first_of, goes, cleaned_of, stay_count, gone_count}
use Rattle.text.specs.Text.{line_feed, decimal, field, refusal_line, lines_to}

-- number and tile of the record, and of the one that stays for it
unfoldable pub removed_line : List ℕ → ℕ → ℕ → List ℕ
removed_line store n first = field n ++ field (tile_at store n) ++ field first ++ decimal (tile_at store first) ++ line_feed

-- the line of a record that is removed; another has none
unfoldable pub line_of : List ℕ → ℕ → List ℕ
line_of store n = pick (goes store n) (removed_line store n (first_of store n)) []

abbrev pub removed_lines : List ℕ → ℕ → List ℕ
removed_lines store = lines_to (line_of store)

-- `stays `, ` removed `
unfoldable pub counts_line : ℕ → ℕ → List ℕ
counts_line stay removed =
    115 ∷ 116 ∷ 97 ∷ 121 ∷ 115 ∷ 32 ∷ [] ++ decimal stay ++ (32 ∷ 114 ∷ 101 ∷ 109 ∷ 111 ∷ 118 ∷ 101 ∷ 100 ∷ 32 ∷ [] ++ decimal removed) ++ line_feed

abbrev pub cleaning_at : ℕ → List ℕ → List ℕ
cleaning_at zero store = removed_lines store (records_in store) ++ counts_line (stay_count store) (gone_count store)
cleaning_at (suc number) store = refusal_line (suc number)

unfoldable pub cleaning_text : List ℕ → List ℕ
cleaning_text store = cleaning_at (list_refusal (length store) most_records) store

-- behind the text, the records that stay; of a refused store none
abbrev pub left_at : ℕ → List ℕ → List ℕ
left_at zero store = cleaned_of store
left_at (suc number) store = []

unfoldable pub cleaning_output : List ℕ → List ℕ
cleaning_output store = cleaning_text store ++ left_at (list_refusal (length store) most_records) store

-- The program reads one byte more than a store may have: no byte past that makes a difference.
abbrev pub ReadEnough : Type 0
ReadEnough = (store : List ℕ) → cleaning_output (take (store_limit + 1) store) ≡ cleaning_output store
