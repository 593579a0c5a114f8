-- The theorems of specs/Verdicts, from those of the clean-up and of the copies. Assumes nothing.
use mathlib.Core.Path.{◌≡◌, refl, sym, ◌∙◌, ap}
use mathlib.Core.Bool.{Bool, true, false}
use mathlib.Core.List.{List}
use Prim.Native.Nat.{ℕ, zero, suc, ◌+◌, ◌<◌}
use native.Mathlib.Omega.{arith}
use lib.ListN.{length}
use borrow.Author.Tests.{eq-eqb, eqb-true}
use Rattle.laws.specs.Pick.{pick, both}
use Rattle.laws.proofs.Tests.{cases}
use Rattle.laws.proofs.Rows.{length_made}
use Rattle.laws.proofs.Sameness.{true_false, not_so}
use Rattle.bcn_spec.specs.Answers.{done}
use Rattle.store_records.specs.Store.{records_in, most_records}
use Rattle.store_spec.specs.Twins.{twin_mark, first_twin, mark_at, marks_of, list_refusal, answer_at, marks_at, Listed}
use Rattle.store_spec.proofs.Marking as marking
use Rattle.store_spec.proofs.Listing as listing
use Rattle.store_covered.proofs.Theorem.{alike_copy}
use Rattle.store_covered.proofs.Covering.{covered_shows}
use Rattle.store_clean.specs.Clean.{first_of, goes, going}
use Rattle.store_clean.proofs.Repeating as repeating
use Rattle.store_clean.proofs.Leaving.{going_same}
use Rattle.store_clean.proofs.Cleaning as cleaning
use Rattle.store_clean.proofs.Theorems.{gone_are_twins}
use Rattle.text_audit.specs.Audit.{stays_for, finding_of, is_twin, twins_with, is_copy}
use Rattle.text_audit.specs.Verdicts.{NotRefused, told_copy, CopiesGo, CopiesRemoved, BesideStays, AlikeUncovered}

-- ---- what goes is a twin

module _ (store : List ℕ) (w : NotRefused store) where
  -- the list of a store that is not refused, over room for a mark a record
  room_is : length (marks_of store) ≡ records_in store
  unfolding marks_of
  room_is = length_made (mark_at store) (records_in store)

  is_done : list_refusal (length store) (length (marks_of store)) ≡ done
  is_done =
      let f = listing.whole_when refl w in
      let l = room_is in
      listing.fine (length store) (length (marks_of store)) f.fits f.even (omega arith)

  list_of : Listed store (marks_of store) (answer_at done store) (marks_at done store (marks_of store))
  list_of = record { answers = rw is_done; holds = rw is_done }

  gone_marked : (n : ℕ) → n < records_in store → goes store n ≡ true → mark_at store n ≡ twin_mark
  gone_marked n h t = sym (listing.mark_here list_of refl n h) ∙ gone_are_twins store _ _ _ list_of refl n h t

-- ---- the verdicts

no_both : (a b : Bool) → b ≡ false → both a b ≡ b
no_both true b e = refl
no_both false b e = sym e

pub copies_go : CopiesGo
unfolding finding_of
copies_go store w n h =
    cases (goes store n) (λ t. rw (eq-eqb _ _ (gone_marked store w n h t))) (λ f. no_both (is_twin store n) (goes store n) f)

told : (store : List ℕ) (n : ℕ) → twins_with store is_copy n ≡ going (told_copy store) n
unfolding twins_with going
told store zero = refl
told store (suc n) = ap (λ (k : ℕ). k + pick (told_copy store n) 1 0) (told store n)

pub copies_removed : CopiesRemoved
copies_removed store lent after r d z =
    let f = cleaning.whole d z in
    let fits = f.fits in
    let w : NotRefused store = listing.fine (length store) most_records fits f.even (omega arith) in
    told store (records_in store) ∙ going_same (told_copy store) (goes store) (records_in store) (copies_go store w) ∙ sym (cleaning.removed_count d z)

module _ (store : List ℕ) (n : ℕ) where
  copy_beside : goes store n ≡ true → stays_for store n ≡ first_of store n
  unfolding stays_for
  copy_beside t = rw t

  alike_beside : goes store n ≡ false → stays_for store n ≡ first_twin store n
  unfolding stays_for
  alike_beside f = rw f

  is_twin_lem : is_twin store n ≡ true → first_twin store n < n
  is_twin_lem t = marking.twin_marked store n (eqb-true _ _ t)

pub beside_stays : BesideStays
unfolding finding_of
beside_stays store w n h m =
    cases (goes store n)
    (λ t. let e = copy_beside store n t in
    let l = repeating.goes_first store n t in
    record {
      before = rw e l;
      stays = rw e (repeating.first_stays store n l);
      copy_of = λ _. rw e (repeating.first_repeated store n l);
    })
    (λ f. let e = alike_beside store n f in
    let l = is_twin_lem store n m in
    record {
      before = rw e l;
      stays =
          rw e
          (not_so _
          (λ t. let k = marking.first_stays store n l in
          absurd (omega (arith, gone_marked store w (first_twin store n) (omega arith) t))));
      copy_of = λ t. absurd (true_false (sym t ∙ f));
    })

pub alike_uncovered : AlikeUncovered
unfolding finding_of
alike_uncovered store n m f =
    let e = alike_beside store n f in
    let l = is_twin_lem store n m in
    rw e
    (not_so _
    (λ t. let a = marking.first_alike store n l in
    let copy = alike_copy a l (marking.first_stays store n l) (covered_shows store n (first_twin store n) t) in
    true_false
    (sym (repeating.repeated_goes store n (first_twin store n) l copy.unrefused copy.earlier_unrefused copy.same_format a.unreserved copy.same_bytes)
    ∙ f)))
