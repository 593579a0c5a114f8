-- The theorems of specs/Theorems, from the calls' statements. Assumes nothing.
use mathlib.Core.Path.{◌≡◌, ◌∙◌, ap, ap₂, subst}
use mathlib.Core.Bool.{true, false}
use mathlib.Core.List.{List, ◌++◌}
use mathlib.Core.Logic.{inl, inr}
use Prim.Native.Nat.{ℕ, ◌+◌, ◌*◌, ◌≤◌, ◌<◌}
use native.Mathlib.Nat.{add_assoc}
use native.Mathlib.Omega.{arith}
use lib.ListN.{length, get_or, drop, length-append}
use Rattle.laws.proofs.Tests.{cases}
use Rattle.bcn_spec.specs.Answers.{done}
use Rattle.raw_bytes.proofs.Bytes.{bytes_same}
use Rattle.store_records.specs.Store.{record_size, records_in, tile_of}
use Rattle.store_clean.specs.declared.Cleaned.{Cleaned}
use Rattle.store_clean.specs.Clean.{goes, staying, going, cleaned_of, CleanedInto}
use Rattle.store_clean.proofs.Cleaning as cleaning
use Rattle.store_clean.proofs.Moving.{Sized, Moved, byte_moved, cleaned_sized}
use Rattle.store_clean.proofs.Theorems.{stays_in_order}
use Rattle.store_receipt.specs.Receipt.{entry_size, receipt_of, ReceiptInto}
use Rattle.store_receipt.proofs.Entries.{going_less, tile_told}
use Rattle.store_receipt.proofs.Telling as telling
use Rattle.store_restore.specs.declared.Restored.{Restored}
use Rattle.store_restore.specs.Restore.{total_of, restore_refusal, RestoredInto}
use Rattle.store_restore.specs.Theorems.{receipt_bytes, SameStore, Undone, Taken, entry_tile, InCleaned, NoTileLost}
use Rattle.store_restore.proofs.Fitting as checks
use Rattle.store_restore.proofs.Restoring as restoring
use Rattle.store_restore.proofs.Undoing as undoing

-- ---- undone

module _ (store : List ℕ) (sized : Sized store) where
  pub done_again : (room : ℕ) → length store ≤ room → restore_refusal (cleaned_of store) (receipt_of store) room ≡ done
  done_again room h =
      let c = cleaned_sized store sized in
      let t = undoing.total_same store sized in
      checks.fine (cleaned_of store) (receipt_of store) room c.fits (omega (arith, t, sized.fits)) c.even
      (rw t (undoing.receipt_fits_lem store)) (omega (arith, t))

  same_store : (room later : List ℕ) (s : Restored) → RestoredInto (cleaned_of store) (receipt_of store) room s later → length store ≤ length room
      → SameStore store room s later
  same_store room later s d h =
      let z = done_again (length room) h in
      let t = undoing.total_same store sized in
      let all = restoring.all_restored d z in
      let size : total_of (cleaned_of store) (receipt_of store) * record_size ≡ length store = omega (arith, t, sized.even) in
      record {
        answer = ap (λ (x : Restored). x.answer) all;
        records = ap (λ (x : Restored). x.records) all ∙ t;
        same_bytes = restoring.store_is d z ∙ ap₂ (λ (l : List ℕ) (k : ℕ). l ++ drop k room) (undoing.restored_same store sized) size;
      }

undone_by : (store cleaned receipt room later : List ℕ) (s : Restored) → Sized store → cleaned ≡ cleaned_of store → receipt ≡ receipt_of store
    → RestoredInto cleaned receipt room s later → length store ≤ length room → SameStore store room s later
undone_by store cleaned receipt room later s sized a b d h =
    same_store store sized room later s
    (subst (λ (l : List ℕ). RestoredInto (cleaned_of store) l room s later) b (subst (λ (l : List ℕ). RestoredInto l receipt room s later) a d)) h

module _ {store lent paper after written : List ℕ} {r : Cleaned} (d : ReceiptInto store lent paper r after written) (z : r.answer ≡ done) where
  sized : Sized store
  sized = let w = telling.roomy d z in record { fits = w.fits; even = w.even }

pub undone : Undone
undone store lent paper after written r d z room later s e h =
    undone_by store _ _ room later s (sized d z) (cleaning.front_is (telling.as_cleaned d z) z) (telling.receipt_is d z) e h

pub taken : Taken
taken store lent paper after written r d fits even room entries =
    telling.answer_number d ∙ telling.roomy_taken (length store) (length lent) (length paper) fits even (omega arith) entries

-- ---- no tile number is lost

tile_moved : {other store : List ℕ} {k n : ℕ} → Moved other store k n → tile_of other k ≡ tile_of store n
unfolding tile_of
tile_moved {other} {store} {k} {n} m = bytes_same other store (k * record_size) (n * record_size) 4 (λ i l. byte_moved m i (omega arith))

module _ {store lent after : List ℕ} {r : Cleaned} (d : CleanedInto store lent r after) (z : r.answer ≡ done) where
  room : r.kept * record_size ≤ length after
  room = omega (arith, cleaning.cleaned_length d z, simp length-append at (ap length (cleaning.after_is d z)))

  in_cleaned : (n : ℕ) → n < records_in store → goes store n ≡ false → InCleaned (tile_of store n) r after
  in_cleaned n h f =
      let w = (stays_in_order store lent after r d z).written n h f in
      let l = w.there in
      let m : Moved after store (staying (goes store) n) n = record { here = omega (arith, room); there = h; same_record = w.same_record } in
      record { place = staying (goes store) n; there = l; same_tile = tile_moved m }

entry_tile_lem : (store : List ℕ) (n : ℕ) → n < records_in store → goes store n ≡ true → entry_tile (receipt_of store) (going (goes store) n) ≡ tile_of store n
unfolding tile_of
entry_tile_lem store n h t =
    let e = going (goes store) n in
    bytes_same (receipt_of store) store (e * entry_size + 4) (n * record_size) 4
    (λ k l. ap (λ (i : ℕ). get_or (receipt_of store) i 0) (add_assoc (e * entry_size) 4 k) ∙ tile_told store n h t k l)

in_receipt : (store receipt : List ℕ) (r : Cleaned) (n : ℕ) → receipt ≡ receipt_of store → r.removed ≡ going (goes store) (records_in store)
    → n < records_in store → goes store n ≡ true → (going (goes store) n < r.removed) × (entry_tile receipt (going (goes store) n) ≡ tile_of store n)
in_receipt store receipt r n e c h t = (
  omega (arith, c, going_less (goes store) n (records_in store) h t),
  ap (λ (l : List ℕ). entry_tile l (going (goes store) n)) e ∙ entry_tile_lem store n h t,
)

pub no_tile_lost : NoTileLost
no_tile_lost store lent paper after written r d z n h =
    cases (goes store n)
    (λ t. let p = in_receipt store (receipt_bytes r written) r n (telling.receipt_is d z) (telling.removed_count d z) h t in
    inr (record { place = going (goes store) n; there = p.0; same_tile = p.1 }))
    (λ f. inl (in_cleaned (telling.as_cleaned d z) z n h f))
