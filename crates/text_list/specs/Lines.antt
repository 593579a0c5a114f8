-- S-73: the lines of a store's listing. Assumes nothing.
use Rattle.std.specs.Prelude.{List, [], ◌∷◌, ◌++◌, ℕ, zero, suc, get_or}
use Rattle.bc6h_spec.specs.Fields.{mode_of}
use Rattle.store_records.specs.Store.{tile_at, block_of, record_refusal}
use Rattle.store_spec.specs.Shown.{picture_at}
use Rattle.store_spec.specs.Twins.{mark_at}
use Rattle.text.specs.Text.{blank, line_feed, decimal, hex, field, lines_to}

-- S-73: a triple in hex digits, and the end of the line.
unfoldable pub hex_triple : ℕ → ℕ → ℕ → List ℕ
hex_triple red green blue = hex red ++ blank ++ hex green ++ blank ++ hex blue ++ line_feed

-- S-73: mode, mark and pixel 15's triple.
unfoldable pub shown_rest : List ℕ → ℕ → List ℕ
shown_rest store n =
    field (mode_of (block_of store n)) ++ field (mark_at store n)
    ++ hex_triple (get_or (picture_at store n) 45 0) (get_or (picture_at store n) 46 0) (get_or (picture_at store n) 47 0)

-- S-73: a refused record has `-` for its mode and for each value of the triple.
unfoldable pub refused_rest : List ℕ → ℕ → List ℕ
refused_rest store n = 45 ∷ 32 ∷ [] ++ field (mark_at store n) ++ (45 ∷ 32 ∷ 45 ∷ 32 ∷ 45 ∷ 10 ∷ [])

abbrev pub rest_at : ℕ → List ℕ → ℕ → List ℕ
rest_at zero store n = shown_rest store n
rest_at (suc number) store n = refused_rest store n

-- S-73: record number, tile, answer, mode, mark and triple. The tile is read from the first four bytes, refused or not.
unfoldable pub line_of : List ℕ → ℕ → List ℕ
line_of store n = field n ++ field (tile_at store n) ++ field (record_refusal store n) ++ rest_at (record_refusal store n) store n

abbrev pub lines_of : List ℕ → ℕ → List ℕ
lines_of store = lines_to (line_of store)

-- `kept `, ` twins `, ` bad `
abbrev pub kept_word : List ℕ
kept_word = 107 ∷ 101 ∷ 112 ∷ 116 ∷ 32 ∷ []

abbrev pub twins_word : List ℕ
twins_word = 32 ∷ 116 ∷ 119 ∷ 105 ∷ 110 ∷ 115 ∷ 32 ∷ []

abbrev pub bad_word : List ℕ
bad_word = 32 ∷ 98 ∷ 97 ∷ 100 ∷ 32 ∷ []

unfoldable pub counts_line : ℕ → ℕ → ℕ → List ℕ
counts_line kept twins bad = kept_word ++ decimal kept ++ (twins_word ++ decimal twins) ++ (bad_word ++ decimal bad) ++ line_feed
