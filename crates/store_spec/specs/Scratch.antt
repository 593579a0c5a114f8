-- S-85: what the scratch space of a twin list holds: of each record a fingerprint, and behind all of those the pictures. Assumes nothing.
use Rattle.std.specs.Prelude.{◌≡◌, List, ◌++◌, ℕ, zero, suc, ◌+◌, ◌*◌, ◌/◌, ◌%◌, ◌<◌, get_or, take, drop}
use Rattle.laws.specs.Pick.{pick}
use Rattle.laws.specs.Made.{made, join}
use Rattle.bc6h_spec.specs.Picture.{value_count}
use Rattle.store_records.specs.Store.{records_in, format_of, Unrefused}
use Rattle.store_spec.specs.Shown.{picture_at, is_record, is_reserved}

-- how many values of scratch space a record takes: its fingerprint and its picture
abbrev pub scratch_entry : ℕ
scratch_entry = 49

-- ---- the fingerprint

-- which pictures a record's may equal: 0 those of unsigned records, 1 those of signed ones, 2 none, for it holds no picture
abbrev pub no_picture : ℕ
no_picture = 2

unfoldable pub kind_at : List ℕ → ℕ → ℕ
kind_at store n = pick (is_reserved store n) no_picture (format_of store n)

-- what a number brings to the next one that is made of it
abbrev pub mixed_on : ℕ → ℕ
mixed_on mix = mix % 0x10000000000 * 0x9E3779

-- a number made of the kind and the first pixels' values; that records with one fingerprint show the same is nowhere used
unfoldable pub picture_mixed : ℕ → List ℕ → ℕ → ℕ
picture_mixed kind picture zero = kind
picture_mixed kind picture (suc pixel) =
    mixed_on (picture_mixed kind picture pixel) + get_or picture (pixel * 3) 0 + get_or picture (pixel * 3 + 1) 0 * 0x1000
    + get_or picture (pixel * 3 + 2) 0 * 0x1000000

-- sixteen bits of it, to which every value comes
abbrev pub print_of : ℕ → List ℕ → ℕ
print_of kind picture = picture_mixed kind picture 16 / 0x1000000 % 0x10000

-- ---- a done list's scratch space; of a record that is refused, what was lent

unfoldable pub print_at : List ℕ → List ℕ → ℕ → ℕ
print_at store lent n = pick (is_record store n) (print_of (kind_at store n) (picture_at store n)) (get_or lent n 0)

-- value v of the 48 where record n's picture stands among the pictures
unfoldable pub scratch_value : List ℕ → List ℕ → ℕ → ℕ → ℕ
scratch_value store lent n v = pick (is_record store n) (get_or (picture_at store n) v 0) (get_or lent (value_count * n + v) 0)

unfoldable pub slot_at : List ℕ → List ℕ → ℕ → List ℕ
slot_at store lent n = made (scratch_value store lent n) value_count

-- the pictures, one after the other, and the rest of the lent values
unfoldable pub pictures_of : List ℕ → List ℕ → List ℕ
pictures_of store lent = join (made (slot_at store lent) (records_in store)) ++ drop (value_count * records_in store) lent

-- the fingerprints, one a record, and the pictures behind them
unfoldable pub scratch_of : List ℕ → List ℕ → List ℕ
scratch_of store lent = made (print_at store lent) (records_in store) ++ pictures_of store (drop (records_in store) lent)

-- ---- what the search reads

-- the picture of record n, in scratch space with so many fingerprints
unfoldable pub picture_in : List ℕ → ℕ → ℕ → List ℕ
picture_in scratch count n = take value_count (drop (count + value_count * n) scratch)

-- each record that is not refused has its picture at its number ..
pub record Pictured (store scratch : List ℕ) : Type 0 where
  pub at : (k : ℕ) → k < records_in store → Unrefused store k → picture_in scratch (records_in store) k ≡ picture_at store k

-- each such record also has its fingerprint
pub record Kept (store scratch : List ℕ) : Type 0 where
  pub pictured : Pictured store scratch
  pub print : (k : ℕ) → k < records_in store → Unrefused store k → get_or scratch k 0 ≡ print_of (kind_at store k) (picture_at store k)
