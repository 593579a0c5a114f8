-- The receipt of a clean-up fits, and what it puts back is the store. Assumes nothing.
use mathlib.Core.Path.{◌≡◌, refl, sym, ◌∙◌, ap}
use mathlib.Core.Bool.{true, false}
use mathlib.Core.List.{List, ◌++◌}
use mathlib.Core.Logic.{⊎_elim}
use Prim.Native.Nat.{ℕ, zero, suc, ◌+◌, ◌-◌, ◌*◌, ◌≤◌, ◌<◌}
use native.Mathlib.Nat.{eq-or-lt_of_le}
use native.Mathlib.Omega.{arith}
use lib.Dec.{ltb}
use lib.ListN.{length, get_or, take, drop, length-append, length-take, length-drop, get_or-append}
use lib.Seq.{take_all, take-add, get_or-take, get_or-drop, get_or-append-add, ext_get_or}
use borrow.Author.Tests.{ltb-true, ltb-false}
use Rattle.laws.proofs.Tests.{cases}
use Rattle.laws.proofs.Sameness.{true_false, not_so}
use Rattle.store_records.specs.Store.{record_size, records_in, byte_of, block_of}
use Rattle.store_records.proofs.Refusals.{spare_is}
use Rattle.store_clean.specs.Clean.{Repeats, first_of, goes, record_of, staying, going, cleaned_of}
use Rattle.store_clean.proofs.Repeating.{goes_first, first_repeated}
use Rattle.store_clean.proofs.Leaving.{record_length, record_byte, staying_adds, staying_same, left_at}
use Rattle.store_clean.proofs.Moving.{Sized, cleaned_records}
use Rattle.store_receipt.specs.Receipt.{entry_size, entries_in, removed_number, stays_at, tile_bytes, receipt_of}
use Rattle.store_receipt.proofs.Entries.{Gone, gone_of, going_less, number_told, stays_told, tile_told, entries_count, receipt_length}
use Rattle.store_restore.specs.Restore.{total_of, least_at, receipt_fits, entry_for, is_told, put_back, restored_upto, restored_of}
use Rattle.store_restore.proofs.Fitting.{Fits, each_fits}
use Rattle.store_restore.proofs.Restoring.{told_means, told_so}

-- ---- a record and the one that stays for it have the same bytes behind the tile

block_byte : (store : List ℕ) (n k : ℕ) → k < 16 → get_or (block_of store n) k 0 ≡ byte_of store n (8 + k)
unfolding block_of
block_byte store n k h =
    let e : n * record_size + 8 + k ≡ n * record_size + (8 + k) = omega arith in
    get_or-take 16 (drop (n * record_size + 8) store) k 0 h ∙ get_or-drop (n * record_size + 8) store k 0 ∙ ap (λ (i : ℕ). get_or store i 0) e

pub same_byte : (store : List ℕ) (n f k : ℕ) → Repeats store n f → 4 ≤ k → k < record_size → byte_of store f k ≡ byte_of store n k
same_byte store n f k p l h =
    ⊎_elim (λ e. ap (λ (i : ℕ). byte_of store f i) (sym e) ∙ sym p.same_format ∙ ap (λ (i : ℕ). byte_of store n i) e)
    (λ m. cases (ltb k 8)
    (λ t. let s : k < 8 = ltb-true _ _ t in spare_is store f k p.earlier_unrefused m s ∙ sym (spare_is store n k p.unrefused m s))
    (λ g. let s : 8 ≤ k = ltb-false _ _ g in
    let e : 8 + (k - 8) ≡ k = omega arith in
    let b : k - 8 < 16 = omega arith in
    ap (λ (i : ℕ). byte_of store f i) (sym e) ∙ sym (block_byte store f (k - 8) b) ∙ ap (λ (x : List ℕ). get_or x (k - 8) 0) (sym p.same_bytes)
    ∙ block_byte store n (k - 8) b ∙ ap (λ (i : ℕ). byte_of store n i) e))
    (eq-or-lt_of_le l)

module _ (store : List ℕ) where
  -- ---- the entries

  at : (k : ℕ) → k < entries_in (receipt_of store) → Gone (goes store) (records_in store) k
  at k h = gone_of (goes store) (records_in store) k (omega (arith, entries_count store))

  number_at : (k : ℕ) (h : k < entries_in (receipt_of store)) → removed_number (receipt_of store) k ≡ (at k h).number
  number_at k h =
      let g = at k h in
      ap (λ (e : ℕ). removed_number (receipt_of store) e) (sym g.place) ∙ number_told store g.number g.below g.goes_too

  stays_at_lem : (k : ℕ) (h : k < entries_in (receipt_of store)) → stays_at (receipt_of store) k ≡ first_of store (at k h).number
  stays_at_lem k h =
      let g = at k h in
      ap (λ (e : ℕ). stays_at (receipt_of store) e) (sym g.place) ∙ stays_told store g.number g.below g.goes_too

  in_order : (j k : ℕ) (hj : j < entries_in (receipt_of store)) (hk : k < entries_in (receipt_of store)) → j < k → (at j hj).number < (at k hk).number
  in_order j k hj hk l =
      let p = at j hj in
      let q = at k hk in
      cases (ltb p.number q.number) (λ t. ltb-true _ _ t)
      (λ f. ⊎_elim
      (λ e. absurd (omega (arith, l, p.place, q.place, ap (going (goes store)) e)))
      (λ m. absurd (omega (arith, l, p.place, q.place, going_less (goes store) q.number p.number m q.goes_too)))
      (eq-or-lt_of_le (ltb-false p.number q.number f)))

  least : (e : ℕ) → e < entries_in (receipt_of store) → least_at (receipt_of store) e ≤ removed_number (receipt_of store) e
  least zero h = omega arith
  least (suc e) h =
      let hj : e < entries_in (receipt_of store) = omega arith in
      omega (arith, number_at e hj, number_at (suc e) h, in_order e (suc e) hj h (omega arith))

  fits : (e : ℕ) → e < entries_in (receipt_of store) → Fits (receipt_of store) (records_in store) e
  fits e h =
      let g = at e h in
      let q = number_at e h in
      record {
        least = least e h;
        inside = omega (arith, q, g.below);
        before = omega (arith, q, stays_at_lem e h, goes_first store g.number g.goes_too);
      }

  pub receipt_fits_lem : receipt_fits (receipt_of store) (records_in store) ≡ true
  receipt_fits_lem = each_fits (receipt_of store) (records_in store) (omega (arith, receipt_length store (records_in store))) fits

  -- ---- which entry is a record's

  module _ (n : ℕ) (h : n < records_in store) where
    entered : goes store n ≡ true → going (goes store) n < entries_in (receipt_of store)
    entered t = omega (arith, entries_count store, going_less (goes store) n (records_in store) h t)

    told_same : is_told (receipt_of store) n ≡ goes store n
    told_same =
        cases (goes store n)
        (λ t. told_so (receipt_of store) n (going (goes store) n) (entered t) (number_told store n h t) ∙ sym t)
        (λ f. not_so _
        (λ t. let e = told_means (receipt_of store) n t in
        let g = at (entry_for (receipt_of store) n) e.there in
        let q : g.number ≡ n = sym (number_at (entry_for (receipt_of store) n) e.there) ∙ e.number in
        true_false (sym g.goes_too ∙ ap (goes store) q ∙ f)) ∙ sym f)

    entry_same : goes store n ≡ true → entry_for (receipt_of store) n ≡ going (goes store) n
    entry_same t =
        let e = told_means (receipt_of store) n (told_same ∙ t) in
        let g = at (entry_for (receipt_of store) n) e.there in
        let q : g.number ≡ n = sym (number_at (entry_for (receipt_of store) n) e.there) ∙ e.number in
        sym g.place ∙ ap (going (goes store)) q

    -- ---- what it puts back is the record

    module _ (t : goes store n ≡ true) where
      abbrev entry : ℕ
      entry = going (goes store) n

      before : first_of store n < n
      before = goes_first store n t

      abbrev from : ℕ
      from = stays_at (receipt_of store) entry * record_size + 4

      abbrev tail : List ℕ
      tail = take 20 (drop from (take (n * record_size) store))

      from_is : from ≡ first_of store n * record_size + 4
      from_is = ap (λ (x : ℕ). x * record_size + 4) (stays_told store n h t)

      head_length : length (tile_bytes (receipt_of store) entry) ≡ 4
      head_length = simp (length-take, length-drop) (omega (arith, entered t))

      tail_length : length tail ≡ 20
      tail_length = simp (length-take, length-drop) (omega (arith, from_is, before, h))

      head_byte : (k : ℕ) → k < 4 → get_or (tile_bytes (receipt_of store) entry) k 0 ≡ byte_of store n k
      head_byte k l =
          let e : entry * entry_size + 4 + k ≡ entry * entry_size + (4 + k) = omega arith in
          get_or-take 4 (drop (entry * entry_size + 4) (receipt_of store)) k 0 l ∙ get_or-drop (entry * entry_size + 4) (receipt_of store) k 0
          ∙ ap (λ (i : ℕ). get_or (receipt_of store) i 0) e ∙ tile_told store n h t k l

      tail_byte : (k : ℕ) → k < 20 → get_or tail k 0 ≡ byte_of store n (4 + k)
      tail_byte k l =
          let e : from + k ≡ first_of store n * record_size + (4 + k) = omega (arith, from_is) in
          get_or-take 20 (drop from (take (n * record_size) store)) k 0 l ∙ get_or-drop from (take (n * record_size) store) k 0
          ∙ ap (λ (i : ℕ). get_or (take (n * record_size) store) i 0) e
          ∙ get_or-take (n * record_size) store (first_of store n * record_size + (4 + k)) 0 (omega (arith, before))
          ∙ same_byte store n (first_of store n) (4 + k) (first_repeated store n before) (omega arith) (omega arith)

      put_same : put_back (take (n * record_size) store) (receipt_of store) entry ≡ record_of store n
      unfolding put_back
      put_same =
          let head = tile_bytes (receipt_of store) entry in
          let size : length (head ++ tail) ≡ record_size = simp length-append (omega (arith, head_length, tail_length)) in
          ext_get_or 0 (head ++ tail) (record_of store n) (size ∙ sym (record_length store n h)) (λ k l.
          let m : k < record_size = omega (arith, size) in
          byte k m ∙ sym (record_byte store n k m))
        where
          byte : (k : ℕ) → k < record_size → get_or (tile_bytes (receipt_of store) entry ++ tail) k 0 ≡ byte_of store n k
          byte k m =
              cases (ltb k 4)
              (λ y. let s : k < 4 = ltb-true _ _ y in
              get_or-append (tile_bytes (receipt_of store) entry) tail 0 k (omega (arith, head_length)) ∙ head_byte k s)
              (λ g. let s : 4 ≤ k = ltb-false _ _ g in
              let e : k ≡ length (tile_bytes (receipt_of store) entry) + (k - 4) = omega (arith, head_length) in
              let d : 4 + (k - 4) ≡ k = omega arith in
              ap (λ (i : ℕ). get_or (tile_bytes (receipt_of store) entry ++ tail) i 0) e
              ∙ get_or-append-add (tile_bytes (receipt_of store) entry) tail (k - 4) 0
              ∙ tail_byte (k - 4) (omega arith) ∙ ap (λ (i : ℕ). byte_of store n i) d)

  -- ---- all of it

  staying_told : (n : ℕ) → n ≤ records_in store → staying (is_told (receipt_of store)) n ≡ staying (goes store) n
  staying_told n h = staying_same (is_told (receipt_of store)) (goes store) n (λ k l. told_same k (omega arith))

  one_more : (n : ℕ) → take (n * record_size) store ++ record_of store n ≡ take (suc n * record_size) store
  unfolding record_of
  one_more n =
      let next : n * record_size + record_size ≡ suc n * record_size = omega arith in
      sym (take-add (n * record_size) record_size store) ∙ ap (λ (k : ℕ). take k store) next

  pub restored_first : (n : ℕ) → n ≤ records_in store → restored_upto (cleaned_of store) (receipt_of store) n ≡ take (n * record_size) store
  unfolding restored_upto
  restored_first zero h = refl
  restored_first (suc n) h =
      let r = receipt_of store in
      let ih : restored_upto (cleaned_of store) r n ≡ take (n * record_size) store = restored_first n (omega arith) in
      let l : n < records_in store = omega arith in
      cases (goes store n)
      (λ t. let e : is_told r n ≡ true = told_same n l ∙ t in
      rw (e, ih, entry_same n l t) (ap (λ (x : List ℕ). take (n * record_size) store ++ x) (put_same n l t) ∙ one_more n))
      (λ f. let e : is_told r n ≡ false = told_same n l ∙ f in
      rw (e, ih, staying_told n (omega arith))
      (ap (λ (x : List ℕ). take (n * record_size) store ++ x) (left_at (goes store) store (records_in store) n l (omega arith) f) ∙ one_more n))

  module _ (sized : Sized store) where
    pub total_same : total_of (cleaned_of store) (receipt_of store) ≡ records_in store
    total_same = omega (arith, cleaned_records store sized, entries_count store, staying_adds (goes store) (records_in store))

    pub restored_same : restored_of (cleaned_of store) (receipt_of store) ≡ store
    restored_same =
        ap (restored_upto (cleaned_of store) (receipt_of store)) total_same ∙ restored_first (records_in store) (omega arith)
        ∙ take_all (records_in store * record_size) store (omega (arith, sized.even))
