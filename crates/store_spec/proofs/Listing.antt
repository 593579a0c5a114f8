-- The twin list's statement: which check gives its answer, what a done list says of its store, its marks and its counts, and that it
-- admits one outcome. Assumes nothing.
use mathlib.Core.Path.{◌≡◌, refl, sym, ◌∙◌, ap}
use mathlib.Core.List.{List, ◌++◌}
use Prim.Native.Nat.{ℕ, zero, suc, ◌+◌, ◌-◌, ◌*◌, ◌/◌, ◌%◌, ◌≤◌, ◌<◌}
use native.Mathlib.Omega.{arith}
use lib.Dec.{eqb, ltb}
use lib.ListN.{length, get_or, take, drop, get_or-append}
use lib.Seq.{take_at, drop_at}
use borrow.Author.Tests.{lt-ltb, le-ltb, eq-eqb, ne_eqb, ltb-false, eqb-true, not-false}
use Rattle.laws.specs.Made.{count_of}
use Rattle.laws.proofs.Tests.{cases}
use Rattle.laws.proofs.Checks.{none_met}
use Rattle.laws.proofs.Rows.{length_made, get_d_made}
use Rattle.laws.proofs.Counts.{count_three}
use Rattle.bcn_spec.specs.Answers.{done, short_output, long_store, uneven_store}
use Rattle.store_records.specs.Store.{record_size, store_limit, records_in, most_records}
use Rattle.store_spec.specs.declared.TwinList.{TwinList}
use Rattle.store_spec.specs.Scratch.{scratch_entry, scratch_of}
use Rattle.store_spec.specs.Twins.{Marked, kept_mark, twin_mark, bad_mark, first_twin, mark_at, marks_of, Marks, list_checks, list_refusal, refusal, answer_at, Listed, scratch_refusal, ListedIn}
use Rattle.store_spec.proofs.Marking.{mark_small, mark_is, twin_marked}

-- ---- the checks

module _ (size room : ℕ) where
  pub long : store_limit < size → list_refusal size room ≡ long_store
  unfolding list_refusal
  long h = rw (lt-ltb _ _ h)

  pub uneven : size ≤ store_limit → (size % record_size ≡ 0 → ⊥) → list_refusal size room ≡ uneven_store
  unfolding list_refusal
  uneven h w = rw (le-ltb _ _ h, ne_eqb _ _ w)

  pub short : size ≤ store_limit → size % record_size ≡ 0 → room < size / record_size → list_refusal size room ≡ short_output
  unfolding list_refusal
  short h w l = rw (le-ltb _ _ h, eq-eqb _ _ w, lt-ltb _ _ l)

  pub fine : size ≤ store_limit → size % record_size ≡ 0 → size / record_size ≤ room → list_refusal size room ≡ done
  unfolding list_refusal
  fine h w l = rw (le-ltb _ _ h, eq-eqb _ _ w, le-ltb _ _ l)

  pub refusal_small : list_refusal size room ≤ uneven_store
  unfolding list_refusal
  refusal_small =
      cases (ltb store_limit size) (λ a. rw a (omega arith))
      (λ a. cases (eqb (size % record_size) 0)
      (λ b. cases (ltb room (size / record_size)) (λ e. rw (a, b, e) (omega arith)) (λ e. rw (a, b, e) (omega arith)))
      (λ b. rw (a, b) (omega arith)))

module _ (store lent : List ℕ) where
  marks_length : length (marks_of store) ≡ records_in store
  unfolding marks_of
  marks_length = length_made (mark_at store) (records_in store)

  front : {after : List ℕ} → after ≡ marks_of store ++ drop (records_in store) lent → take (records_in store) after ≡ marks_of store
  front e = ap (take (records_in store)) e ∙ take_at (marks_of store) (drop (records_in store) lent) (records_in store) marks_length

-- ---- what it says

answer_is : (k : ℕ) (store : List ℕ) → (answer_at k store).answer ≡ k
answer_is zero store = refl
answer_is (suc k) store = refl

module _ {store lent after : List ℕ} {r : TwinList} (d : Listed store lent r after) where
  pub one_outcome : {s : TwinList} {other : List ℕ} → Listed store lent s other → (r ≡ s) × (after ≡ other)
  one_outcome e = (d.answers ∙ sym e.answers, d.holds ∙ sym e.holds)

  pub answer_number : r.answer ≡ list_refusal (length store) (length lent)
  answer_number = ap (λ (x : TwinList). x.answer) d.answers ∙ answer_is (list_refusal (length store) (length lent)) store

  -- a refusal is its number alone: every count is zero
  pub refused_alone : (r.answer ≡ done → ⊥) → r ≡ refusal r.answer
  refused_alone n =
      let number = list_refusal (length store) (length lent) in
      let s : number ≡ suc (number - 1) = omega (arith, answer_number) in
      rw s at d.answers ∙ ap refusal (sym (answer_number ∙ s))

  module _ (z : r.answer ≡ done) where
    unrefused : list_refusal (length store) (length lent) ≡ done
    unrefused = sym answer_number ∙ z

    pub after_is : after ≡ marks_of store ++ drop (records_in store) lent
    after_is = rw unrefused at d.holds

    counts : r ≡ answer_at done store
    counts = rw unrefused at d.answers

    -- every mark is right by the words, and the rest of the lent marks stays
    pub mark_here : (n : ℕ) → n < records_in store → get_or after n 0 ≡ mark_at store n
    unfolding marks_of
    mark_here n h =
        ap (λ (l : List ℕ). get_or l n 0) after_is
        ∙ get_or-append (marks_of store) (drop (records_in store) lent) 0 n (let l = marks_length store lent in omega arith)
        ∙ get_d_made (mark_at store) (records_in store) n 0 h

    pub all_marks : Marks store after
    all_marks = record { at = mark_here }

    pub marked : (n : ℕ) → n < records_in store → Marked store n (get_or after n 0)
    marked n h = rw (mark_here n h) (mark_is store n)

    pub rest_stays : drop (records_in store) after ≡ drop (records_in store) lent
    rest_stays = ap (drop (records_in store)) after_is ∙ drop_at (marks_of store) (drop (records_in store) lent) (records_in store) (marks_length store lent)

    -- each count is the number of marks of its kind, and together they are the number of records
    pub kept_count : r.kept ≡ count_of kept_mark (take (records_in store) after)
    kept_count = ap (λ (x : TwinList). x.kept) counts ∙ ap (count_of kept_mark) (sym (front store lent after_is))

    pub twins_count : r.twins ≡ count_of twin_mark (take (records_in store) after)
    twins_count = ap (λ (x : TwinList). x.twins) counts ∙ ap (count_of twin_mark) (sym (front store lent after_is))

    pub bad_count : r.bad ≡ count_of bad_mark (take (records_in store) after)
    bad_count = ap (λ (x : TwinList). x.bad) counts ∙ ap (count_of bad_mark) (sym (front store lent after_is))

    pub counts_add_up : r.kept + r.twins + r.bad ≡ records_in store
    unfolding marks_of
    counts_add_up = rw counts (count_three (mark_at store) (mark_small store) (records_in store))

-- a done list's store is whole, and its marks have room
pub record Whole (size lent : ℕ) : Type 0 where
  pub fits : size ≤ store_limit
  pub even : size % record_size ≡ 0
  pub room : size / record_size ≤ lent

whole_by : (size lent : ℕ) → list_refusal size lent ≡ done → Whole size lent
unfolding list_refusal
whole_by size lent z =
    let none = none_met (list_checks size lent) tt z in
    record { fits = ltb-false _ _ none.0; even = eqb-true _ _ (not-false _ none.1.0); room = ltb-false _ _ none.1.1.0 }

pub whole_when : {size lent number : ℕ} → number ≡ list_refusal size lent → number ≡ done → Whole size lent
whole_when {size} {lent} e z = whole_by size lent (sym e ∙ z)

pub whole : {store lent after : List ℕ} {r : TwinList} → Listed store lent r after → r.answer ≡ done → Whole (length store) (length lent)
whole {store} {lent} d z = whole_by (length store) (length lent) (sym (answer_number d) ∙ z)

-- ---- over lent scratch space

module _ (size room space : ℕ) where
  pub met_first : (number : ℕ) → list_refusal size room ≡ number → (number ≡ done → ⊥) → scratch_refusal size room space ≡ number
  unfolding scratch_refusal
  met_first zero e z = absurd (z refl)
  met_first (suc k) e z = rw e

  pub met_next : list_refusal size room ≡ done → scratch_refusal size room space ≡ list_refusal size (space / scratch_entry)
  unfolding scratch_refusal
  met_next e = rw e

  -- a done list's store is whole, and its marks and what is kept of it have room
  pub record Roomy : Type 0 where
    pub marks_fit : Whole size room
    pub records_fit : Whole size (space / scratch_entry)

  roomy_by : scratch_refusal size room space ≡ done → Roomy
  roomy_by z = go (list_refusal size room) refl
    where
      go : (k : ℕ) → list_refusal size room ≡ k → Roomy
      go zero q = record { marks_fit = whole_by size room q; records_fit = whole_by size (space / scratch_entry) (sym (met_next q) ∙ z) }
      go (suc k) q = absurd (omega (arith, sym (met_first (suc k) q (λ e. omega arith)) ∙ z))

pub roomy_when : {size room space number : ℕ} → number ≡ scratch_refusal size room space → number ≡ done → Roomy size room space
roomy_when {size} {room} {space} e z = roomy_by size room space (sym e ∙ z)

module _ (store lent space : List ℕ) where
  pub listed_in_refused : (number : ℕ) {r : TwinList} → number ≡ scratch_refusal (length store) (length lent) (length space) → (number ≡ done → ⊥)
      → r ≡ refusal number → ListedIn store lent space r lent space
  listed_in_refused zero a z e = absurd (z refl)
  listed_in_refused (suc k) a z e = let s = sym a in record { answers = rw s e; holds = rw s; leaves = rw s }

  pub listed_in_done : {after spaceAfter : List ℕ} {count kept twins bad : ℕ} → count ≡ records_in store → scratch_refusal (length store) (length lent) (length space) ≡ done
      → spaceAfter ≡ scratch_of store space
      → after ≡ marks_of store ++ drop (records_in store) lent → kept ≡ count_of kept_mark (take count after)
      → twins ≡ count_of twin_mark (take count after) → bad ≡ count_of bad_mark (take count after)
      → ListedIn store lent space (record { answer = done; kept = kept; twins = twins; bad = bad }) after spaceAfter
  listed_in_done n a s e k t b = record { answers = rw (a, k, t, b, n, front store lent e); holds = rw a e; leaves = rw a s }

module _ {store lent space after spaceAfter : List ℕ} {r : TwinList} (d : ListedIn store lent space r after spaceAfter) where
  pub one_outcome_in : {s : TwinList} {other spaceOther : List ℕ} → ListedIn store lent space s other spaceOther
      → (r ≡ s) × (after ≡ other) × (spaceAfter ≡ spaceOther)
  one_outcome_in e = (d.answers ∙ sym e.answers, d.holds ∙ sym e.holds, d.leaves ∙ sym e.leaves)

  pub answer_number_in : r.answer ≡ scratch_refusal (length store) (length lent) (length space)
  answer_number_in =
      ap (λ (x : TwinList). x.answer) d.answers ∙ answer_is (scratch_refusal (length store) (length lent) (length space)) store

  -- a refusal is its number alone, and nothing that is lent changes
  pub record Silent : Type 0 where
    pub alone : r ≡ refusal r.answer
    pub same_marks : after ≡ lent
    pub same_space : spaceAfter ≡ space

  pub silent_in : (r.answer ≡ done → ⊥) → Silent
  silent_in n =
      let number = scratch_refusal (length store) (length lent) (length space) in
      let s : number ≡ suc (number - 1) = omega (arith, answer_number_in) in
      record {
        alone = rw s at d.answers ∙ ap refusal (sym (answer_number_in ∙ s));
        same_marks = rw s at d.holds;
        same_space = rw s at d.leaves;
      }

  -- where it is done, what it answers and marks is what the ordinary list does
  pub list_is : r.answer ≡ done → Listed store lent r after
  list_is z =
      let k = sym answer_number_in ∙ z in
      let w = (roomy_by (length store) (length lent) (length space) k).marks_fit in
      let l = fine (length store) (length lent) w.fits w.even w.room in
      record { answers = d.answers ∙ rw (k, l); holds = d.holds ∙ rw (k, l) }

  pub ordinary_list : r.answer ≡ done → {list : TwinList} {marks : List ℕ} → Listed store lent list marks → (r ≡ list) × (after ≡ marks)
  ordinary_list z e = one_outcome (list_is z) e

  -- scratch space for as many records as any store has is never too small
  pub listed_by : length space ≡ most_records * scratch_entry → Listed store lent r after
  listed_by l =
      let e = enough (list_refusal (length store) (length lent)) refl in
      record { answers = d.answers ∙ rw e; holds = d.holds ∙ rw e }
    where
      enough : (k : ℕ) → list_refusal (length store) (length lent) ≡ k
          → scratch_refusal (length store) (length lent) (length space) ≡ list_refusal (length store) (length lent)
      enough zero q =
          let w = whole_by (length store) (length lent) q in
          met_next (length store) (length lent) (length space) q
          ∙ fine (length store) (length space / scratch_entry) w.fits w.even (let h = w.fits in omega (arith, l))
          ∙ sym q
      enough (suc k) q = met_first (length store) (length lent) (length space) (suc k) q (λ e. omega arith) ∙ sym q

-- ---- a marked twin

-- the first record that a marked twin equals
pub marked_first : {store lent after : List ℕ} {r : TwinList} → Listed store lent r after → r.answer ≡ done → (n : ℕ) → n < records_in store
    → get_or after n 0 ≡ twin_mark → first_twin store n < n
marked_first {store} d z n h m = twin_marked store n (sym (mark_here d z n h) ∙ m)
