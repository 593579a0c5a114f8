-- S-74: what the program infinities prints of a store: a line a record in which a value is minus infinity, and a last line with the counts. Assumes
-- nothing.
use Rattle.std.specs.Prelude.{◌≡◌, Bool, List, [], ◌∷◌, ◌++◌, ℕ, zero, suc, ◌+◌, ◌*◌, ◌/◌, ◌%◌, ◌≤◌, eqb, length, get_or}
use Rattle.laws.specs.Pick.{pick}
use Rattle.laws.specs.First.{first_below}
use Rattle.bc6h_spec.specs.Half.{minus_infinity}
use Rattle.bc6h_spec.specs.Picture.{value_count, is_signed}
use Rattle.bc6h_spec.specs.Block.{infinities_of}
use Rattle.store_records.specs.Store.{records_in, format_of, tile_at, block_of, record_refusal, most_records}
use Rattle.store_spec.specs.Shown.{picture_at}
use Rattle.store_spec.specs.Twins.{list_refusal}
use Rattle.text.specs.Text.{line_feed, decimal, field, refusal_line, lines_to}
use Rattle.text_infinities.specs.declared.Finding.{Finding}

-- S-26: whether value j is 0xFC00.
unfoldable pub infinite_at : List ℕ → ℕ → Bool
infinite_at values j = eqb (get_or values j 0) minus_infinity

-- S-74: how many values of a record are minus infinity, and the first of them; a refused record has no values
abbrev pub finding_at : ℕ → List ℕ → ℕ → Finding
finding_at zero store n = record {
  infinite = infinities_of (is_signed (format_of store n)) (block_of store n);
  first = first_below (infinite_at (picture_at store n)) value_count;
}
finding_at (suc number) store n = record { infinite = 0; first = value_count }

unfoldable pub finding_of : List ℕ → ℕ → Finding
finding_of store n = finding_at (record_refusal store n) store n

-- `red`, `green` or `blue`, and the end of the line
unfoldable pub channel_word : ℕ → List ℕ
channel_word channel =
    pick (eqb channel 0) (114 ∷ 101 ∷ 100 ∷ 10 ∷ [])
    (pick (eqb channel 1) (103 ∷ 114 ∷ 101 ∷ 101 ∷ 110 ∷ 10 ∷ []) (98 ∷ 108 ∷ 117 ∷ 101 ∷ 10 ∷ []))

-- the record's number and tile, how many values are minus infinity, and the pixel and channel of the first
unfoldable pub finding_line : List ℕ → ℕ → Finding → List ℕ
finding_line store n finding =
    field n ++ field (tile_at store n) ++ field finding.infinite ++ field (finding.first / 3) ++ channel_word (finding.first % 3)

-- a record without such a value has no line
unfoldable pub infinite_line : List ℕ → ℕ → List ℕ
infinite_line store n = pick (eqb (finding_of store n).infinite 0) [] (finding_line store n (finding_of store n))

abbrev pub infinite_lines : List ℕ → ℕ → List ℕ
infinite_lines store = lines_to (infinite_line store)

-- how many of the first records have such a value, and how many such values they have
unfoldable pub records_with : List ℕ → ℕ → ℕ
records_with store zero = 0
records_with store (suc n) = records_with store n + pick (eqb (finding_of store n).infinite 0) 0 1

unfoldable pub values_with : List ℕ → ℕ → ℕ
values_with store zero = 0
values_with store (suc n) = values_with store n + (finding_of store n).infinite

-- `records `, ` values `
unfoldable pub counts_line : ℕ → ℕ → List ℕ
counts_line records values =
    114 ∷ 101 ∷ 99 ∷ 111 ∷ 114 ∷ 100 ∷ 115 ∷ 32 ∷ [] ++ decimal records
    ++ (32 ∷ 118 ∷ 97 ∷ 108 ∷ 117 ∷ 101 ∷ 115 ∷ 32 ∷ [] ++ decimal values)
    ++ line_feed

unfoldable pub counts_of : List ℕ → ℕ → List ℕ
counts_of store count = counts_line (records_with store count) (values_with store count)

abbrev pub text_at : ℕ → List ℕ → List ℕ
text_at zero store = infinite_lines store (records_in store) ++ counts_of store (records_in store)
text_at (suc number) store = refusal_line (suc number)

unfoldable pub infinities_text : List ℕ → List ℕ
infinities_text store = text_at (list_refusal (length store) most_records) store

-- The counts over the first n records, as a loop has them.
pub record Counted (store : List ℕ) (n records values : ℕ) : Type 0 where
  pub records_is : records ≡ records_with store n
  pub values_is : values ≡ values_with store n
  pub few : (records ≤ n) × (values ≤ 65535 * n)
