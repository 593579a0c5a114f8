-- S-52: looking alike is an equivalence, and the order of a store's records does not decide which pictures are kept. Assumes nothing.
use Rattle.std.specs.Prelude.{◌≡◌, List, ℕ, ◌<◌, get_or}
use Rattle.laws.specs.Order.{Reordered}
use Rattle.bcn_spec.specs.Answers.{done}
use Rattle.store_records.specs.Store.{record_size, records_in, format_of, block_of, Unrefused}
use Rattle.store_spec.specs.declared.TwinList.{TwinList}
use Rattle.store_spec.specs.Shown.{picture_at, Reserved}
use Rattle.store_spec.specs.Twins.{kept_mark, Alike, Listed}
use Rattle.store_clean.specs.declared.Cleaned.{Cleaned}
use Rattle.store_clean.specs.Clean.{CleanedInto}
use Rattle.store_clean.specs.Theorems.{cleaned_bytes}

-- ---- looking alike

-- Record n holds a picture: it is not refused, and its mode is not reserved.
pub record HasPicture (store : List ℕ) (n : ℕ) : Type 0 where
  pub unrefused : Unrefused store n
  pub unreserved : Reserved store n → ⊥

-- `Alike` is an equivalence on the records that hold a picture, and speaks of no other.
pub record Equivalence (store : List ℕ) : Type 0 where
  pub reflexive : (n : ℕ) → HasPicture store n → Alike store n n
  pub symmetric : (m n : ℕ) → Alike store m n → Alike store n m
  pub transitive : (l m n : ℕ) → Alike store l m → Alike store m n → Alike store l n
  pub pictures : (m n : ℕ) → Alike store m n → HasPicture store m × HasPicture store n

abbrev pub AlikeIsEquivalence : Type 0
AlikeIsEquivalence = (store : List ℕ) → Equivalence store

-- ---- another order

-- A record that the marks keep holds a picture of the format, with the values.
pub record KeepsPicture (store marks : List ℕ) (format : ℕ) (values : List ℕ) : Type 0 where
  pub place : ℕ
  pub inside : place < records_in store
  pub kept : get_or marks place 0 ≡ kept_mark
  pub unreserved : Reserved store place → ⊥
  pub of_format : format_of store place ≡ format
  pub shows : picture_at store place ≡ values

-- Two stores have the same records in some order: whatever the twin list leaves of them, both keep the same pictures.
abbrev pub SameKept : Type 0
SameKept = (store other : List ℕ) → Reordered record_size store other
    → (room marks : List ℕ) (list : TwinList) → Listed store room list marks → list.answer ≡ done
    → (space others : List ℕ) (next : TwinList) → Listed other space next others → next.answer ≡ done
    → (format : ℕ) (values : List ℕ)
    → (KeepsPicture store marks format values → KeepsPicture other others format values) × (KeepsPicture other others format values → KeepsPicture store marks format values)

-- A record of `bytes` has the format and the sixteen block bytes.
pub record LeftBlock (bytes : List ℕ) (format : ℕ) (block : List ℕ) : Type 0 where
  pub place : ℕ
  pub inside : place < records_in bytes
  pub of_format : format_of bytes place ≡ format
  pub same_bytes : block_of bytes place ≡ block

-- And both cleaned stores hold the same blocks, each in its format.
abbrev pub SameLeft : Type 0
SameLeft = (store other : List ℕ) → Reordered record_size store other
    → (lent after : List ℕ) (r : Cleaned) → CleanedInto store lent r after → r.answer ≡ done
    → (room later : List ℕ) (s : Cleaned) → CleanedInto other room s later → s.answer ≡ done
    → (format : ℕ) (block : List ℕ)
    → (LeftBlock (cleaned_bytes r after) format block → LeftBlock (cleaned_bytes s later) format block)
    × (LeftBlock (cleaned_bytes s later) format block → LeftBlock (cleaned_bytes r after) format block)
