-- S-103: the lines of the listing of a store of records with a place. Assumes nothing.
use Rattle.std.specs.Prelude.{Bool, not, List, [], ◌∷◌, ◌++◌, ℕ, zero, suc, eqb, get_or}
use Rattle.laws.specs.Pick.{pick, both}
use Rattle.bcn_spec.specs.Answers.{done}
use Rattle.bc6h_spec.specs.Fields.{mode_of}
use Rattle.probe_places.specs.declared.Place.{Place}
use Rattle.probe_places.specs.Places.{places_in, tile_in, place_in, block_in, placed}
use Rattle.probe_places.specs.Readings.{placed_refusal}
use Rattle.probe.specs.Probe.{triple_at}
use Rattle.store_faulty.specs.Faulty.{placed_form, how_many, counts_of}
use Rattle.text.specs.Text.{blank, line_feed, decimal, field, lines_to}
use Rattle.text_list.specs.Lines.{hex_triple, bad_word}
use Rattle.text_places.specs.declared.PlaceCounts.{PlaceCounts}

-- S-103: face, column and row; `-` for each where the record is not placed.
unfoldable pub place_words : Place → List ℕ
place_words p = pick (placed p) (field p.face ++ field p.column ++ decimal p.row) (45 ∷ 32 ∷ 45 ∷ 32 ∷ 45 ∷ [])

-- the number and the tile of a record, which is read from the first four bytes, refused or not
unfoldable pub record_words : List ℕ → ℕ → List ℕ
record_words store n = field n ++ field (tile_in store n)

-- S-103: mode, place and pixel 15's triple, decoded in the record's own format.
unfoldable pub shown_rest : List ℕ → ℕ → List ℕ
shown_rest store n =
    field (mode_of (block_in store n)) ++ place_words (place_in store n) ++ blank
    ++ hex_triple (get_or (triple_at store n 15) 0 0) (get_or (triple_at store n 15) 1 0) (get_or (triple_at store n 15) 2 0)

-- S-103: a refused record has `-` for its mode, its place and each value of the triple.
abbrev pub refused_rest : List ℕ
refused_rest = 45 ∷ 32 ∷ 45 ∷ 32 ∷ 45 ∷ 32 ∷ 45 ∷ 32 ∷ 45 ∷ 32 ∷ 45 ∷ 32 ∷ 45 ∷ 10 ∷ []

abbrev pub rest_at : ℕ → List ℕ → ℕ → List ℕ
rest_at zero store n = shown_rest store n
rest_at (suc number) store n = refused_rest

-- S-103: record number, tile, answer, mode, face, column, row and triple.
unfoldable pub line_of : List ℕ → ℕ → List ℕ
line_of store n = record_words store n ++ field (placed_refusal store n) ++ rest_at (placed_refusal store n) store n

abbrev pub lines_of : List ℕ → ℕ → List ℕ
lines_of store = lines_to (line_of store)

-- ---- the counts

-- record n is not refused; it has a place, or none
unfoldable pub is_placed : List ℕ → ℕ → Bool
is_placed store n = both (eqb (placed_refusal store n) done) (placed (place_in store n))

unfoldable pub is_unplaced : List ℕ → ℕ → Bool
is_unplaced store n = both (eqb (placed_refusal store n) done) (not (placed (place_in store n)))

-- S-103: how many records are placed, how many are not, and how many are refused.
unfoldable pub place_counts : List ℕ → PlaceCounts
place_counts store = record {
  placed = how_many (is_placed store) (places_in store);
  unplaced = how_many (is_unplaced store) (places_in store);
  bad = (counts_of placed_form store).refused;
}

-- `placed `, ` unplaced `, ` bad `
unfoldable pub counts_line : PlaceCounts → List ℕ
counts_line counts =
    112 ∷ 108 ∷ 97 ∷ 99 ∷ 101 ∷ 100 ∷ 32 ∷ [] ++ decimal counts.placed
    ++ (32 ∷ 117 ∷ 110 ∷ 112 ∷ 108 ∷ 97 ∷ 99 ∷ 101 ∷ 100 ∷ 32 ∷ [] ++ decimal counts.unplaced)
    ++ (bad_word ++ decimal counts.bad)
    ++ line_feed
