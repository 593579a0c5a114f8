-- Laws of a receipt that fits: its checks one by one, and that its numbers rise. Assumes nothing.
use mathlib.Core.Path.{◌≡◌, sym, ◌∙◌, ap, ap₂}
use mathlib.Core.Bool.{Bool, true, false, not}
use mathlib.Core.List.{List}
use Prim.Native.Nat.{ℕ, zero, suc, ◌+◌, ◌-◌, ◌*◌, ◌%◌, ◌≤◌, ◌<◌}
use native.Mathlib.Nat.{add-zero, add-suc}
use native.Mathlib.Numerals.{add-one}
use native.Mathlib.Omega.{arith}
use lib.Dec.{eqb, ltb}
use lib.ListN.{length}
use borrow.Author.Tests.{lt-ltb, le-ltb, eq-eqb, ne_eqb, ltb-true, ltb-false, eqb-true, not-true, not-false}
use Rattle.laws.specs.Every.{below}
use Rattle.laws.proofs.Tests.{both_true, below_at}
use Rattle.laws.proofs.Checks.{none_met}
use Rattle.laws.proofs.Search.{holds, is_true}
use Rattle.laws.proofs.Below.{below_all, below_fails, below_upto}
use Rattle.bcn_spec.specs.Answers.{done, short_output, long_store, uneven_store, bad_receipt}
use Rattle.store_records.specs.Store.{record_size, store_limit, most_records}
use Rattle.store_receipt.specs.declared.Entry.{Entry}
use Rattle.store_receipt.specs.Receipt.{entry_size, entries_in, removed_number, stays_at, entry_at}
use Rattle.store_restore.specs.Restore.{total_of, least_at, entry_fits, receipt_fits, restore_checks, restore_refusal}

-- ---- an entry

module _ (receipt : List ℕ) (total e : ℕ) where
  pub entry_low : removed_number receipt e < least_at receipt e → entry_fits receipt total e ≡ false
  unfolding entry_fits
  entry_low h = rw (lt-ltb _ _ h)

  module _ (l : least_at receipt e ≤ removed_number receipt e) where
    pub entry_high : total ≤ removed_number receipt e → entry_fits receipt total e ≡ false
    unfolding entry_fits
    entry_high h = rw (le-ltb _ _ l, le-ltb _ _ h)

    pub entry_last : removed_number receipt e < total → ltb (stays_at receipt e) (removed_number receipt e) ≡ entry_fits receipt total e
    unfolding entry_fits
    entry_last h = rw (le-ltb _ _ l, lt-ltb _ _ h)

  pub record Fits : Type 0 where
    pub least : least_at receipt e ≤ removed_number receipt e
    pub inside : removed_number receipt e < total
    pub before : stays_at receipt e < removed_number receipt e

  pub fits_means : entry_fits receipt total e ≡ true → Fits
  unfolding entry_fits
  fits_means t =
      let a = both_true (not (ltb (removed_number receipt e) (least_at receipt e))) _ t in
      let b = both_true (ltb (removed_number receipt e) total) _ a.1 in
      record { least = ltb-false _ _ (not-true _ a.0); inside = ltb-true _ _ b.0; before = ltb-true _ _ b.1 }

  pub fits_so : Fits → entry_fits receipt total e ≡ true
  unfolding entry_fits
  fits_so f = rw (le-ltb _ _ f.least, lt-ltb _ _ f.inside, lt-ltb _ _ f.before)

-- as the code asks them, of an entry that was read
module _ (receipt : List ℕ) (total e least : ℕ) (x : Entry) (q : x ≡ entry_at receipt e) (p : least ≡ least_at receipt e) where
  number : x.number ≡ removed_number receipt e
  number = ap (λ (y : Entry). y.number) q

  stays : x.stays ≡ stays_at receipt e
  stays = ap (λ (y : Entry). y.stays) q

  pub code_low : x.number < least → false ≡ entry_fits receipt total e
  code_low h = sym (entry_low receipt total e (omega (arith, number)))

  module _ (l : least ≤ x.number) where
    pub code_high : total ≤ x.number → false ≡ entry_fits receipt total e
    code_high h = sym (entry_high receipt total e (omega (arith, number)) (omega (arith, number)))

    pub code_last : x.number < total → ltb x.stays x.number ≡ entry_fits receipt total e
    code_last h = ap₂ ltb stays number ∙ entry_last receipt total e (omega (arith, number)) (omega (arith, number))

-- ---- the loop over the entries

pub least_next : (receipt : List ℕ) (e number : ℕ) → number ≡ removed_number receipt e → number + 1 ≡ least_at receipt (e + 1)
least_next receipt e number q = rw (add-one e, q)

module _ (receipt : List ℕ) (total : ℕ) where
  pub uneven_receipt : (length receipt % entry_size ≡ 0 → ⊥) → false ≡ receipt_fits receipt total
  unfolding receipt_fits
  uneven_receipt h = rw (ne_eqb _ _ h)

  module _ (w : length receipt % entry_size ≡ 0) where
    pub entry_fails : (e : ℕ) → entry_fits receipt total e ≡ false → e < entries_in receipt → false ≡ receipt_fits receipt total
    unfolding receipt_fits
    entry_fails e f h = rw (eq-eqb _ _ w) (below_fails (entry_fits receipt total) (entries_in receipt) e f h)

    pub all_fit : (e : ℕ) → below (entry_fits receipt total) e ≡ true → e ≤ entries_in receipt → entries_in receipt ≤ e → true ≡ receipt_fits receipt total
    unfolding receipt_fits
    all_fit e t h l = rw (eq-eqb _ _ w) (below_upto (entry_fits receipt total) (entries_in receipt) e t h l)

    pub each_fits : ((e : ℕ) → e < entries_in receipt → Fits receipt total e) → receipt_fits receipt total ≡ true
    unfolding receipt_fits
    each_fits f =
        rw (eq-eqb _ _ w)
        (is_true _ (below_all (entry_fits receipt total) (entries_in receipt) (λ e h. holds (fits_so receipt total e (f e h)))))

  pub record FitReceipt : Type 0 where
    pub even : length receipt % entry_size ≡ 0
    pub fits : (e : ℕ) → e < entries_in receipt → Fits receipt total e

  pub whole_receipt : receipt_fits receipt total ≡ true → FitReceipt
  unfolding receipt_fits
  whole_receipt t =
      let a = both_true (eqb (length receipt % entry_size) 0) _ t in
      record {
        even = eqb-true _ _ a.0;
        fits = λ e h. fits_means receipt total e (is_true _ (below_at (entry_fits receipt total) (entries_in receipt) e (holds a.1) h));
      }

  -- each number is above the one before, so that d entries on it is at least d more
  module _ (w : FitReceipt) where
    rises : (e : ℕ) → suc e < entries_in receipt → removed_number receipt e + 1 ≤ removed_number receipt (suc e)
    rises e h = (w.fits (suc e) h).least

    pub climbs : (d e : ℕ) → e + d < entries_in receipt → removed_number receipt e + d ≤ removed_number receipt (e + d)
    climbs zero e h = rw (add-zero e) (omega arith)
    climbs (suc d) e h =
        let s : suc (e + d) < entries_in receipt = omega arith in
        let a : removed_number receipt e + d ≤ removed_number receipt (e + d) = climbs d e (omega arith) in
        let b : removed_number receipt (e + d) + 1 ≤ removed_number receipt (suc (e + d)) = rises (e + d) s in
        let g : removed_number receipt e + suc d ≤ removed_number receipt (suc (e + d)) = omega (arith, a, b) in
        rw (add-suc e d) g

    -- the number of a later entry is at least as many more as it is later
    pub climbs_to : (e f : ℕ) → e ≤ f → f < entries_in receipt → removed_number receipt e + (f - e) ≤ removed_number receipt f
    climbs_to e f l h =
        let q : e + (f - e) ≡ f = omega arith in
        ap_le q (climbs (f - e) e (omega arith))
      where
        ap_le : {x y : ℕ} → x ≡ y → removed_number receipt e + (f - e) ≤ removed_number receipt x → removed_number receipt e + (f - e) ≤ removed_number receipt y
        ap_le q m = rw q at m

-- ---- the call's checks

pub fits_of : (receipt : List ℕ) (whole total : ℕ) {r : Bool} → r ≡ receipt_fits receipt whole → whole ≡ total → r ≡ receipt_fits receipt total
fits_of receipt whole total d e = d ∙ ap (receipt_fits receipt) e

module _ (cleaned receipt : List ℕ) (room : ℕ) where
  pub long : store_limit < length cleaned → restore_refusal cleaned receipt room ≡ long_store
  unfolding restore_refusal
  long h = rw (lt-ltb _ _ h)

  module _ (a : length cleaned ≤ store_limit) where
    pub many : most_records < total_of cleaned receipt → restore_refusal cleaned receipt room ≡ long_store
    unfolding restore_refusal
    many h = rw (le-ltb _ _ a, lt-ltb _ _ h)

    module _ (b : total_of cleaned receipt ≤ most_records) where
      pub uneven : (length cleaned % record_size ≡ 0 → ⊥) → restore_refusal cleaned receipt room ≡ uneven_store
      unfolding restore_refusal
      uneven h = rw (le-ltb _ _ a, le-ltb _ _ b, ne_eqb _ _ h)

      module _ (d : length cleaned % record_size ≡ 0) where
        pub unfit : receipt_fits receipt (total_of cleaned receipt) ≡ false → restore_refusal cleaned receipt room ≡ bad_receipt
        unfolding restore_refusal
        unfit f = rw (le-ltb _ _ a, le-ltb _ _ b, eq-eqb _ _ d, f)

        module _ (f : receipt_fits receipt (total_of cleaned receipt) ≡ true) where
          pub short : room < total_of cleaned receipt * record_size → restore_refusal cleaned receipt room ≡ short_output
          unfolding restore_refusal
          short h = rw (le-ltb _ _ a, le-ltb _ _ b, eq-eqb _ _ d, f, lt-ltb _ _ h)

          pub fine : total_of cleaned receipt * record_size ≤ room → restore_refusal cleaned receipt room ≡ done
          unfolding restore_refusal
          fine h = rw (le-ltb _ _ a, le-ltb _ _ b, eq-eqb _ _ d, f, le-ltb _ _ h)

  pub record Restorable : Type 0 where
    pub fits : length cleaned ≤ store_limit
    pub few : total_of cleaned receipt ≤ most_records
    pub even : length cleaned % record_size ≡ 0
    pub whole : FitReceipt receipt (total_of cleaned receipt)
    pub room_for : total_of cleaned receipt * record_size ≤ room

  pub restorable : restore_refusal cleaned receipt room ≡ done → Restorable
  unfolding restore_refusal
  restorable z =
      let none = none_met (restore_checks cleaned receipt room) tt z in
      record {
        fits = ltb-false _ _ none.0;
        few = ltb-false _ _ none.1.0;
        even = eqb-true _ _ (not-false _ none.1.1.0);
        whole = whole_receipt receipt (total_of cleaned receipt) (not-false _ none.1.1.1.0);
        room_for = ltb-false _ _ none.1.1.1.1.0;
      }
