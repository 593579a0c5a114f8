-- S-84: when a tile that is marked a twin may go: its block is a copy, byte for byte, of the block that stays. Assumes nothing.
use Rattle.std.specs.Prelude.{◌≡◌, ◌⊎◌, Bool, true, false, List, ℕ, ◌<◌, eqb, leb, get_or}
use Rattle.laws.specs.Pick.{both}
use Rattle.bcn_spec.specs.Answers.{done}
use Rattle.bc6h_spec.specs.Fields.{mode_of, fields_of}
use Rattle.store_copies.specs.Words.{Eligible, ChannelDiffers}
use Rattle.store_copies.specs.Wide.{Suited, Matched}
use Rattle.store_copies.specs.Trust.{trusted}
use Rattle.store_records.specs.Store.{records_in, format_of, block_of, Unrefused}
use Rattle.store_spec.specs.declared.TwinList.{TwinList}
use Rattle.store_spec.specs.Shown.{picture_at, is_record}
use Rattle.store_spec.specs.Twins.{kept_mark, twin_mark, first_twin, mark_at, Listed}

-- the two blocks meet the premises of the copies theorem, in the record's format; that the other has the same format, the mark says
pub record Covered (store : List ℕ) (n earlier : ℕ) : Type 0 where
  pub suited : Suited (format_of store n) (block_of store n)
  pub earlier_suited : Suited (format_of store n) (block_of store earlier)
  pub matched : Matched (format_of store n) (block_of store n) (format_of store n) (block_of store earlier)

-- an earlier record that stays: it is not refused, of the same format, with the same sixteen block bytes, and itself no twin
pub record Copy (store : List ℕ) (n earlier : ℕ) : Type 0 where
  pub before : earlier < n
  pub unrefused : Unrefused store n
  pub earlier_unrefused : Unrefused store earlier
  pub same_format : format_of store n ≡ format_of store earlier
  pub same_bytes : block_of store n ≡ block_of store earlier
  pub earlier_kept : mark_at store earlier ≡ kept_mark

-- Whatever the twin list did: a record that it marked as a twin, and that is covered together with the first record that it equals,
-- is a copy of that record.
abbrev pub CleanUp : Type 0
CleanUp = (store lent after : List ℕ) (r : TwinList) → Listed store lent r after → r.answer ≡ done → (n : ℕ) → n < records_in store
    → get_or after n 0 ≡ twin_mark → Covered store n (first_twin store n) → Copy store n (first_twin store n)

-- ---- over a whole store

-- A clean-up by the marks: a choice of records that go, each of them marked a twin and covered together with the first record that it equals.
pub record Chosen (store after : List ℕ) (goes : ℕ → Bool) : Type 0 where
  pub marked : (n : ℕ) → n < records_in store → goes n ≡ true → get_or after n 0 ≡ twin_mark
  pub covered_twin : (n : ℕ) → n < records_in store → goes n ≡ true → Covered store n (first_twin store n)

-- a record that is marked kept, and so is never chosen, of the format of record n and with its sixteen block bytes
pub record KeptBlock (store after : List ℕ) (goes : ℕ → Bool) (n : ℕ) : Type 0 where
  pub place : ℕ
  pub before : place < n
  pub kept : get_or after place 0 ≡ kept_mark
  pub stays : goes place ≡ false
  pub same_format : format_of store n ≡ format_of store place
  pub same_bytes : block_of store n ≡ block_of store place

-- Whatever the twin list did, and whichever covered twins a clean-up chooses: for each record that goes there is one that stays, of the
-- same format and with the same sixteen bytes. (What goes with a twin all the same is its tile number.)
abbrev pub NoBlockLost : Type 0
NoBlockLost = (store lent after : List ℕ) (r : TwinList) → Listed store lent r after → r.answer ≡ done → (goes : ℕ → Bool) → Chosen store after goes
    → (n : ℕ) → n < records_in store → goes n ≡ true → KeptBlock store after goes n

-- S-46: a record that is marked kept, of the format of record n and with its 48 values
pub record KeptPicture (store after : List ℕ) (n : ℕ) : Type 0 where
  pub place : ℕ
  pub before : place < n
  pub kept : get_or after place 0 ≡ kept_mark
  pub same_format : format_of store n ≡ format_of store place
  pub same_values : picture_at store n ≡ picture_at store place

-- And of every twin, covered or not: a kept record of the same format shows the same 48 values.
abbrev pub NoPictureLost : Type 0
NoPictureLost = (store lent after : List ℕ) (r : TwinList) → Listed store lent r after → r.answer ≡ done → (n : ℕ) → n < records_in store
    → get_or after n 0 ≡ twin_mark → KeptPicture store after n

-- ---- a test for it, which a program computes: each of the two blocks meets the premises by itself

-- S-84: of two blocks of a format, and of two records of a store.
unfoldable pub covered_pair : ℕ → List ℕ → List ℕ → Bool
covered_pair format block earlier =
    both (trusted format block)
    (both (trusted format earlier)
    (both (eqb (mode_of block) (mode_of earlier)) (eqb (fields_of format block).partition (fields_of format earlier).partition)))

unfoldable pub covered : List ℕ → ℕ → ℕ → Bool
covered store n earlier =
    both (both (is_record store n) (is_record store earlier))
    (both (eqb (format_of store n) (format_of store earlier)) (covered_pair (format_of store n) (block_of store n) (block_of store earlier)))

-- ---- what demand 3 alone covers: both unsigned, of one mode from 11 to 13

-- S-84: two records that meet the premises of S-3.
pub record ByDemand3 (store : List ℕ) (n earlier : ℕ) : Type 0 where
  pub unsigned : format_of store n ≡ 0
  pub earlier_unsigned : format_of store earlier ≡ 0
  pub eligible : Eligible (block_of store n)
  pub earlier_eligible : Eligible (block_of store earlier)
  pub one_mode : mode_of (block_of store n) ≡ mode_of (block_of store earlier)
  pub differs : ChannelDiffers false (block_of store n) ⊎ ChannelDiffers false (block_of store earlier)

unfoldable pub by_demand_3 : List ℕ → ℕ → ℕ → Bool
by_demand_3 store n earlier = both (covered store n earlier) (both (eqb (format_of store n) 0) (leb 11 (mode_of (block_of store n))))
