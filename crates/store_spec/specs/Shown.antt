-- S-42: what a record of a store shows, and whether it holds a picture. Assumes nothing.
use Rattle.std.specs.Prelude.{◌≡◌, Bool, List, ℕ, eqb}
use Rattle.bcn_spec.specs.Answers.{done}
use Rattle.bc6h_spec.specs.Fields.{mode_of}
use Rattle.bc6h_spec.specs.Picture.{is_signed}
use Rattle.bc6h_spec.specs.Block.{pixels_of}
use Rattle.store_records.specs.Store.{format_of, block_of, record_refusal}

-- the 48 values that record n decodes to
unfoldable pub picture_at : List ℕ → ℕ → List ℕ
picture_at store n = pixels_of (is_signed (format_of store n)) (block_of store n)

-- S-8: a reserved block shows zeros but holds no picture.
abbrev pub Reserved : List ℕ → ℕ → Type 0
Reserved store n = mode_of (block_of store n) ≡ 0

-- S-42: record n is not refused; it is reserved
abbrev pub is_record : List ℕ → ℕ → Bool
is_record store n = eqb (record_refusal store n) done

abbrev pub is_reserved : List ℕ → ℕ → Bool
is_reserved store n = eqb (mode_of (block_of store n)) 0
