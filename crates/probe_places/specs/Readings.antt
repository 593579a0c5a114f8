-- S-54: what the record call and the block call answer about a store of records with a place. Assumes nothing.
use Rattle.std.specs.Prelude.{◌≡◌, Bool, not, List, [], ◌∷◌, ℕ, zero, suc, ◌%◌, eqb, ltb, length}
use Rattle.laws.specs.Checks.{first_met}
use Rattle.bcn_spec.specs.Answers.{done, long_store, uneven_store, no_record}
use Rattle.probe_places.specs.declared.PlacedReading.{PlacedReading}
use Rattle.probe_places.specs.declared.PlacedReading.TheVariants.{Record, Refused}
use Rattle.probe_places.specs.Places.{place_size, place_limit, places_in, tile_in, format_in, face_in, column_in, row_in, block_in, place_record_checks}

-- S-54: 5, 6, 8, 1, 7, 17: the first check that is met.
abbrev pub placed_checks : List ℕ → ℕ → List (Bool × ℕ)
placed_checks store n =
    (ltb place_limit (length store), long_store) ∷
    (not (eqb (length store % place_size) 0), uneven_store) ∷ (not (ltb n (places_in store)), no_record) ∷ place_record_checks store n

unfoldable pub placed_refusal : List ℕ → ℕ → ℕ
placed_refusal store n = first_met (placed_checks store n)

-- the record call does not refuse n
abbrev pub Readable : List ℕ → ℕ → Type 0
Readable store n = placed_refusal store n ≡ done

-- The number and the values that each case of a reading stands for.
abbrev pub placed_number : PlacedReading → ℕ
placed_number (Record r) = done
placed_number (Refused number) = number

abbrev pub values_of : PlacedReading → List ℕ
values_of (Record r) = r.tile ∷ r.format ∷ r.place.face ∷ r.place.column ∷ r.place.row ∷ []
values_of (Refused number) = []

abbrev pub values_at : ℕ → List ℕ → ℕ → List ℕ
values_at zero store n = tile_in store n ∷ format_in store n ∷ face_in store n ∷ column_in store n ∷ row_in store n ∷ []
values_at (suc number) store n = []

-- A record's tile, format, face, column and row, or the refusal's number alone.
pub record PlacedRead (store : List ℕ) (n : ℕ) (r : PlacedReading) : Type 0 where
  pub answers : placed_number r ≡ placed_refusal store n
  pub gives : values_of r ≡ values_at (placed_refusal store n) store n

-- The record's sixteen block bytes as a part of the store, empty exactly when the record call refuses.
abbrev pub placed_part : ℕ → List ℕ → ℕ → List ℕ
placed_part zero store n = block_in store n
placed_part (suc number) store n = []
