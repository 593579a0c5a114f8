-- The theorems of specs/Growing on the earlier records. Assumes nothing.
use mathlib.Core.Path.{◌≡◌, sym, ◌∙◌, ap}
use mathlib.Core.List.{List, ◌++◌}
use Prim.Native.Nat.{ℕ, ◌≤◌, ◌<◌}
use native.Mathlib.Omega.{arith}
use lib.Dec.{ltb}
use lib.ListN.{length, length-append}
use Rattle.store_records.specs.Store.{records_in}
use Rattle.laws.proofs.Firsts.{first_same}
use Rattle.bcn_spec.specs.Answers.{done}
use Rattle.store_spec.specs.declared.TwinList.{TwinList}
use Rattle.store_spec.specs.Twins.{alike, first_twin, mark_at, Listed}
use Rattle.store_spec.proofs.Listing as listing
use Rattle.store_clean.specs.Clean.{repeats, first_of, goes}
use Rattle.store_clean.proofs.Leaving.{record_front}
use Rattle.store_clean.proofs.Moving.{Sized, Moved, refusal_moved}
use Rattle.store_theorems.specs.Growing.{Appended, MarksGrow}
use Rattle.store_theorems.proofs.Carrying.{repeats_same, alike_same}

module _ (store more : List ℕ) (sized : Sized store) (longer : Sized (store ++ more)) where
  pub there : (n : ℕ) → n < records_in store → Moved (store ++ more) store n n
  there n h =
      record {
        here = let l : length store ≤ length (store ++ more) = simp length-append (omega arith) in omega arith;
        there = h;
        same_record = record_front store more n (omega arith);
      }

  module _ (n : ℕ) (h : n < records_in store) where
    pub first_appended : first_of (store ++ more) n ≡ first_of store n
    unfolding first_of
    first_appended =
        first_same (repeats (store ++ more) n) (repeats store n) n (λ k l. repeats_same longer sized (there n h) (there k (omega arith)))

    pub goes_appended : goes (store ++ more) n ≡ goes store n
    unfolding goes
    goes_appended = ap (λ (k : ℕ). ltb k n) first_appended

    pub twin_appended : first_twin (store ++ more) n ≡ first_twin store n
    unfolding first_twin
    twin_appended = first_same (alike (store ++ more) n) (alike store n) n (λ k l. alike_same longer sized (there n h) (there k (omega arith)))

    pub mark_appended : mark_at (store ++ more) n ≡ mark_at store n
    unfolding mark_at
    mark_appended = rw (refusal_moved longer sized (there n h), twin_appended)

pub appended : Appended
appended store more a b n h =
    let s : Sized store = record { fits = a.fits; even = a.even } in
    let l : Sized (store ++ more) = record { fits = b.fits; even = b.even } in
    record {
      same_mark = mark_appended store more s l n h;
      same_twin = twin_appended store more s l n h;
      same_first = first_appended store more s l n h;
      same_removal = goes_appended store more s l n h;
    }

pub sized_list : {store room marks : List ℕ} {list : TwinList} → Listed store room list marks → list.answer ≡ done → Sized store
sized_list d z = let w = listing.whole d z in record { fits = w.fits; even = w.even }

pub marks_grow : MarksGrow
marks_grow store more room marks list d z wide later next e y n h =
    let s = sized_list d z in
    let l = sized_list e y in
    listing.mark_here e y n (there store more s l n h).here ∙ mark_appended store more s l n h ∙ sym (listing.mark_here d z n h)
