-- The strict list's statement: its refusals, its one outcome, that it is the ordinary list when it is done, and what 12 says of the
-- store. Assumes nothing.
use mathlib.Core.Path.{◌≡◌, refl, sym, ◌∙◌, ap}
use mathlib.Core.Bool.{true, false}
use mathlib.Core.List.{List}
use Prim.Native.Nat.{ℕ, zero, suc, ◌≤◌, ◌<◌}
use native.Mathlib.Omega.{arith}
use lib.Dec.{eqb, ltb}
use lib.ListN.{length}
use borrow.Author.Tests.{lt-ltb, le-ltb, eq-eqb, ltb-true, eqb-true}
use Rattle.laws.proofs.Tests.{cases, both_true}
use Rattle.laws.proofs.Firsts.{first_most, first_passes, first_least, first_never}
use Rattle.bcn_spec.specs.Answers.{done, uneven_store, reserved_block}
use Rattle.bc6h_spec.specs.Fields.{mode_of}
use Rattle.store_records.specs.Store.{store_limit, records_in, block_of, Unrefused}
use Rattle.store_records.proofs.Refusals.{known}
use Rattle.store_spec.specs.declared.TwinList.{TwinList}
use Rattle.store_spec.specs.Shown.{is_record}
use Rattle.store_spec.specs.Twins.{list_refusal, refusal, answer_at, Listed}
use Rattle.store_twins.specs.Strict.{Damaged, damaged, first_damaged, or_damaged, strict_refusal, StrictlyListed}
use Rattle.store_spec.proofs.Shown.{is_record_lem, is_refused}
use Rattle.store_spec.proofs.Listing as ordinary

-- ---- damaged records

module _ (store : List ℕ) (n : ℕ) where
  pub damaged_refused : (Unrefused store n → ⊥) → false ≡ damaged store n
  unfolding damaged
  damaged_refused r = rw (is_refused store n r)

  pub damaged_mode : {mode : ℕ} → Unrefused store n → mode ≡ mode_of (block_of store n) → eqb mode 0 ≡ damaged store n
  unfolding damaged
  damaged_mode u m = rw (is_record_lem store n u, m)

  pub damaged_so : Damaged store n → damaged store n ≡ true
  unfolding damaged
  damaged_so d = rw (is_record_lem store n d.unrefused, eq-eqb _ _ d.reserved)

  pub damaged_means : damaged store n ≡ true → Damaged store n
  unfolding damaged
  damaged_means t =
      let a = both_true (is_record store n) _ t in
      record { unrefused = eqb-true _ _ a.0; reserved = eqb-true _ _ a.1 }

module _ (store : List ℕ) where
  pub first_damaged_lem : first_damaged store < records_in store → Damaged store (first_damaged store)
  unfolding first_damaged
  first_damaged_lem h = damaged_means store _ (first_passes (damaged store) (records_in store) h)

  pub first_few : first_damaged store ≤ records_in store
  unfolding first_damaged
  first_few = first_most (damaged store) (records_in store)

  pub no_earlier : (n : ℕ) → Damaged store n → first_damaged store ≤ n
  unfolding first_damaged
  no_earlier n d = first_least (damaged store) (records_in store) n (known store n d.unrefused).below (damaged_so store n d)

  -- where it is the number of all records, none is damaged; so it is of a store that is too long
  pub none_damaged : first_damaged store ≡ records_in store → (n : ℕ) → Damaged store n → ⊥
  none_damaged e n d = omega (arith, e, no_earlier n d, (known store n d.unrefused).below)

  pub long_none : store_limit < length store → records_in store ≡ first_damaged store
  unfolding first_damaged
  long_none h =
      sym (first_never (damaged store) (λ k. sym (damaged_refused store k (λ u. omega (arith, h, (known store k u).fits)))) (records_in store))

  pub one_first : {a b : ℕ} → a ≡ first_damaged store → b ≡ first_damaged store → a ≡ b
  one_first d e = d ∙ sym e

-- ---- the checks and the statement, at each return

module _ (store lent : List ℕ) where
  strict_refusal_lem : (number : ℕ) → list_refusal (length store) (length lent) ≡ suc number → strict_refusal store (length lent) ≡ suc number
  unfolding strict_refusal
  strict_refusal_lem number e = rw e

  strict_damaged : list_refusal (length store) (length lent) ≡ done → first_damaged store < records_in store
      → strict_refusal store (length lent) ≡ reserved_block
  unfolding strict_refusal
  strict_damaged e h = rw (e, lt-ltb _ _ h)

  strict_fine : list_refusal (length store) (length lent) ≡ done → records_in store ≤ first_damaged store
      → strict_refusal store (length lent) ≡ done
  unfolding strict_refusal
  strict_fine e h = rw (e, le-ltb _ _ h)

  pub strictly_refused : (number : ℕ) {r : TwinList} → number ≡ list_refusal (length store) (length lent) → (number ≡ done → ⊥)
      → r ≡ refusal number → StrictlyListed store lent r lent
  strictly_refused zero e z q = absurd (z refl)
  strictly_refused (suc number) e z q = let s = strict_refusal_lem number (sym e) in record { answers = rw s q; holds = rw s }

  pub strictly_damaged : {r : TwinList} {first : ℕ} → list_refusal (length store) (length lent) ≡ done → first ≡ first_damaged store
      → first < records_in store → r ≡ refusal reserved_block → StrictlyListed store lent r lent
  strictly_damaged {r} {first} e q h a =
      let s = strict_damaged e (rw q at h) in
      record { answers = rw s a; holds = rw s }

  pub strictly_done : {r : TwinList} {after : List ℕ} {first : ℕ} → list_refusal (length store) (length lent) ≡ done
      → first ≡ first_damaged store → records_in store ≤ first → Listed store lent r after → StrictlyListed store lent r after
  strictly_done {r} {after} {first} e q h d =
      let s = strict_fine e (rw q at h) in
      record { answers = rw s (rw e at d.answers); holds = rw s (rw e at d.holds) }

-- ---- what it says

pub refusal_small : (store : List ℕ) (room : ℕ) → strict_refusal store room ≤ reserved_block
unfolding strict_refusal
refusal_small store room = go (list_refusal (length store) room) (ordinary.refusal_small (length store) room)
  where
    go : (k : ℕ) → k ≤ uneven_store → or_damaged k store ≤ reserved_block
    go zero l = cases (ltb (first_damaged store) (records_in store)) (λ t. rw t (omega arith)) (λ f. rw f (omega arith))
    go (suc k) l = omega arith

strict_answer : (k : ℕ) (store : List ℕ) → (answer_at k store).answer ≡ k
strict_answer zero store = refl
strict_answer (suc k) store = refl

fine_means : (store lent : List ℕ) → strict_refusal store (length lent) ≡ done → list_refusal (length store) (length lent) ≡ done
fine_means store lent e = go (list_refusal (length store) (length lent)) refl
  where
    go : (k : ℕ) → list_refusal (length store) (length lent) ≡ k → k ≡ done
    go zero q = refl
    go (suc k) q = absurd (omega (arith, sym (strict_refusal_lem store lent k q) ∙ e))

module _ {store lent after : List ℕ} {r : TwinList} (d : StrictlyListed store lent r after) where
  pub one_outcome : {s : TwinList} {other : List ℕ} → StrictlyListed store lent s other → (r ≡ s) × (after ≡ other)
  one_outcome e = (d.answers ∙ sym e.answers, d.holds ∙ sym e.holds)

  pub answer_number : r.answer ≡ strict_refusal store (length lent)
  answer_number = ap (λ (x : TwinList). x.answer) d.answers ∙ strict_answer (strict_refusal store (length lent)) store

  -- where it is done, what it answers and leaves is what the ordinary list does
  module _ (z : r.answer ≡ done) where
    strict_done : strict_refusal store (length lent) ≡ done
    strict_done = sym answer_number ∙ z

    pub list_is : Listed store lent r after
    list_is =
        let e = fine_means store lent strict_done in
        record { answers = d.answers ∙ rw (strict_done, e); holds = d.holds ∙ rw (strict_done, e) }

    pub ordinary_list : {list : TwinList} {marks : List ℕ} → Listed store lent list marks → (r ≡ list) × (after ≡ marks)
    ordinary_list e = ordinary.one_outcome list_is e

    -- and then no record is damaged
    pub undamaged : (n : ℕ) → Damaged store n → ⊥
    unfolding strict_refusal
    undamaged n b =
        let l = no_earlier store n b in
        let k = (known store n b.unrefused).below in
        let h : first_damaged store < records_in store = omega arith in
        omega (arith, sym (strict_damaged store lent (fine_means store lent strict_done) h) ∙ strict_done)

  -- where it is not done, it is its number alone: every count is zero and no mark is changed
  pub refused_alone : (r.answer ≡ done → ⊥) → r ≡ refusal r.answer
  refused_alone n = d.answers ∙ go (strict_refusal store (length lent)) refl ∙ ap refusal (sym answer_number)
    where
      go : (k : ℕ) → strict_refusal store (length lent) ≡ k → answer_at k store ≡ refusal k
      go zero q = absurd (n (answer_number ∙ q))
      go (suc k) q = refl

  pub silent : (r.answer ≡ done → ⊥) → after ≡ lent
  silent n = go (strict_refusal store (length lent)) refl
    where
      go : (k : ℕ) → strict_refusal store (length lent) ≡ k → after ≡ lent
      go zero q = absurd (n (answer_number ∙ q))
      go (suc k) q = rw q at d.holds

  -- 12 says that a record is damaged: `first_damaged` then names one, and none before it is
  module _ (z : r.answer ≡ reserved_block) where
    strict_12 : strict_refusal store (length lent) ≡ reserved_block
    strict_12 = sym answer_number ∙ z

    pub some_damaged : first_damaged store < records_in store
    unfolding strict_refusal
    some_damaged = go (list_refusal (length store) (length lent)) refl
      where
        go : (k : ℕ) → list_refusal (length store) (length lent) ≡ k → first_damaged store < records_in store
        go zero q = cases (ltb (first_damaged store) (records_in store)) (λ t. ltb-true _ _ t) (λ f. absurd (omega (arith, rw (q, f) at strict_12)))
        go (suc k) q =
            let l = ordinary.refusal_small (length store) (length lent) in
            absurd (omega (arith, sym (strict_refusal_lem store lent k q) ∙ strict_12))

    pub told_damaged : {first : ℕ} → first ≡ first_damaged store → Damaged store first
    told_damaged e = rw e (first_damaged_lem store some_damaged)

    pub told_first : {first : ℕ} → first ≡ first_damaged store → (n : ℕ) → Damaged store n → first ≤ n
    told_first e n b = rw e (no_earlier store n b)

  -- a store with a damaged record is refused, whatever else
  pub damaged_refuses : (n : ℕ) → Damaged store n → r.answer ≡ done → ⊥
  damaged_refuses n b z = undamaged z n b
