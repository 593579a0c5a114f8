-- Where the copies theorem covers every twin, what goes is what is marked. Assumes nothing.
use mathlib.Core.Path.{◌≡◌, sym, ◌∙◌, ap}
use mathlib.Core.Bool.{true}
use mathlib.Core.List.{List}
use Prim.Native.Nat.{ℕ, ◌≤◌, ◌<◌}
use native.Mathlib.Omega.{arith}
use lib.ListN.{length, get_or, length-append}
use borrow.Author.Tests.{eqb-true, eqb-false}
use Rattle.laws.proofs.Tests.{cases}
use Rattle.laws.proofs.Rows.{length_made}
use Rattle.laws.proofs.Sameness.{not_so}
use Rattle.bcn_spec.specs.Answers.{done}
use Rattle.store_records.specs.Store.{records_in}
use Rattle.store_spec.specs.declared.TwinList.{TwinList}
use Rattle.store_spec.specs.Twins.{twin_mark, first_twin, mark_at, marks_of, Listed}
use Rattle.store_spec.proofs.Marking.{first_alike}
use Rattle.store_spec.proofs.Listing as listing
use Rattle.store_spec.proofs.Listing.{marked_first}
use Rattle.store_covered.specs.CleanUp.{Covered}
use Rattle.store_covered.proofs.Theorem.{clean_up}
use Rattle.store_clean.specs.Clean.{goes, going}
use Rattle.store_clean.proofs.Repeating as repeating
use Rattle.store_clean.proofs.Leaving.{left_same, going_same, going_count}
use Rattle.store_clean.proofs.Cleaning as cleaning
use Rattle.store_clean.proofs.Theorems.{gone_are_twins}
use Rattle.store_theorems.specs.Covering.{twin_in, AllCovered}

module _ {store room marks : List ℕ} {list : TwinList} (c : Listed store room list marks) (y : list.answer ≡ done) where
  module _ (covered : (n : ℕ) → n < records_in store → get_or marks n 0 ≡ twin_mark → Covered store n (first_twin store n)) where
    marked_gone : (n : ℕ) → n < records_in store → get_or marks n 0 ≡ twin_mark → goes store n ≡ true
    marked_gone n h m =
        let l = marked_first c y n h m in
        let copy = clean_up store room marks list c y n h m (covered n h m) in
        repeating.repeated_goes store n (first_twin store n) l copy.unrefused copy.earlier_unrefused copy.same_format
        (first_alike store n l).unreserved copy.same_bytes

    same_test : (n : ℕ) → n < records_in store → goes store n ≡ twin_in marks n
    same_test n h =
        cases (twin_in marks n) (λ t. marked_gone n h (eqb-true _ _ t) ∙ sym t)
        (λ f. not_so _ (λ t. eqb-false _ _ f (gone_are_twins store room marks list c y n h t)) ∙ sym f)

  marks_room : records_in store ≤ length marks
  unfolding marks_of
  marks_room = omega (arith, simp length-append at (ap length (listing.after_is c y)), length_made (mark_at store) (records_in store))

  twins_are : going (twin_in marks) (records_in store) ≡ list.twins
  twins_are = going_count twin_mark marks (records_in store) marks_room ∙ sym (listing.twins_count c y)

pub all_covered : AllCovered
all_covered store room marks list c y covered lent after r d z =
    let count = records_in store in
    let same = same_test c y covered in
    let removed : r.removed ≡ list.twins =
    cleaning.removed_count d z ∙ going_same (goes store) (twin_in marks) count same ∙ twins_are c y in
    record {
      kept = omega (arith, removed, cleaning.counts_add_up d z, listing.counts_add_up c y);
      removed = removed;
      same_bytes = cleaning.front_is d z ∙ left_same (goes store) (twin_in marks) store count same;
    }
