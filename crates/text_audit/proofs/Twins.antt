-- The audit's lines and counts, as a loop over the records makes them. Assumes nothing.
use mathlib.Core.Path.{◌≡◌, refl, sym, ◌∙◌}
use mathlib.Core.Bool.{Bool, true, false}
use mathlib.Core.List.{List, ◌++◌}
use Prim.Native.Nat.{ℕ, zero, suc, ◌+◌, ◌≤◌, ◌<◌}
use native.Mathlib.Numerals.{add-one}
use native.Mathlib.Omega.{arith}
use lib.Dec.{ltb}
use lib.ListN.{length}
use borrow.Author.Tests.{eq-eqb, ne_eqb, lt-ltb, le-ltb}
use Rattle.laws.specs.Pick.{pick}
use Rattle.laws.proofs.Tests.{picks}
use Rattle.bcn_spec.specs.Answers.{done}
use Rattle.store_records.specs.Store.{records_in, tile_at, most_records}
use Rattle.store_covered.specs.CleanUp.{covered, by_demand_3}
use Rattle.store_clean.specs.Clean.{first_of, goes}
use Rattle.store_faulty.specs.declared.FaultCounts.{FaultCounts}
use Rattle.store_faulty.specs.Faulty.{form_of, counts_of}
use Rattle.store_spec.specs.declared.TwinList.{TwinList}
use Rattle.store_spec.specs.Twins.{twin_mark, first_twin, mark_at, list_refusal, Listed}
use Rattle.store_spec.proofs.Listing as listed
use Rattle.text.specs.Text.{field, refusal_line, Written}
use Rattle.text.proofs.Texts.{then, said}
use Rattle.text.proofs.Lines as lines
use Rattle.text_audit.specs.declared.Finding.{Finding}
use Rattle.text_audit.specs.Audit.{stays_for, finding_of, columns_line, pair_of, twin_line, is_twin, audit_line, audit_lines, twins_with, is_copy, is_alike, is_covered, is_before, tally_line, tally_of, audit_of, Tallied}

-- ---- a line

module _ (store : List ℕ) (n : ℕ) where
  pub copy_beside : (first : ℕ) → first < n → first ≡ pick (ltb first n) first (first_twin store n)
  copy_beside first h = rw (lt-ltb first n h)

  pub twin_beside : {twin : ℕ} (first : ℕ) → n ≤ first → twin ≡ first_twin store n → twin ≡ pick (ltb first n) first (first_twin store n)
  twin_beside first h e = rw (le-ltb first n h) e

  pub found : {first stays : ℕ} {is-copy is_covered is-before : Bool} → first ≡ first_of store n → stays ≡ pick (ltb first n) first (first_twin store n)
      → is-copy ≡ ltb first n → is_covered ≡ covered store n stays → is-before ≡ by_demand_3 store n stays
      → record { stays = stays; copy = is-copy; covered = is_covered; by_demand_3 = is-before } ≡ finding_of store n
  unfolding finding_of stays_for goes
  found f s p c d = rw (c, d, s, p, f)

  pub pair : {l m₁ m₂ m₃ m₄ : List ℕ} {at e₁ e₂ e₃ e₄ tile other : ℕ} (stays : ℕ) → tile ≡ tile_at store n → other ≡ tile_at store stays
      → Written l at (field n) e₁ m₁ → Written m₁ e₁ (field tile) e₂ m₂ → Written m₂ e₂ (field stays) e₃ m₃ → Written m₃ e₃ (field other) e₄ m₄
      → Written l at (pair_of store n stays) e₄ m₄
  unfolding pair_of
  pair stays t o x y z w = said (then (then (then x y) z) w) (rw (t, o))

-- ---- the loop over the records

pub one_most : (test : Bool) → pick test 1 0 ≤ 1
one_most test = picks test 1 0 (λ n. n ≤ 1) (λ e. omega arith) (λ e. omega arith)

module _ (store : List ℕ) (n mark : ℕ) (here : mark ≡ mark_at store n) where
  -- record n is no twin
  module _ (other : mark ≡ twin_mark → ⊥) where
    no_twin : is_twin store n ≡ false
    no_twin = ne_eqb _ _ (λ e. other (here ∙ e))

    uncounted : (test : Finding → Bool) → twins_with store test (n + 1) ≡ twins_with store test n
    unfolding twins_with
    uncounted test = rw (add-one n, no_twin) (omega arith)

    pub line_skipped : {l m : List ℕ} {at e : ℕ} → Written l at (audit_lines store n) e m → Written l at (audit_lines store (n + 1)) e m
    unfolding audit_line
    line_skipped = lines.line_skipped (audit_line store) n (rw no_twin)

    pub tally_skipped : {copies alike covered before : ℕ} → Tallied store n copies alike covered before → Tallied store (n + 1) copies alike covered before
    tally_skipped t = record {
      copies_is = t.copies_is ∙ sym (uncounted is_copy);
      alike_is = t.alike_is ∙ sym (uncounted is_alike);
      covered_is = t.covered_is ∙ sym (uncounted is_covered);
      before_is = t.before_is ∙ sym (uncounted is_before);
      few = let f = t.few in (omega arith, omega arith, omega arith, omega arith);
    }

  -- record n is a twin
  module _ (so : mark ≡ twin_mark) {finding : Finding} (found : finding ≡ finding_of store n) where
    a_twin : is_twin store n ≡ true
    a_twin = eq-eqb _ _ (sym here ∙ so)

    counted : (test : Finding → Bool) → twins_with store test (n + 1) ≡ twins_with store test n + pick (test finding) 1 0
    unfolding twins_with
    counted test = rw (add-one n, a_twin, found)

    pub line_more : {l m₁ m₂ : List ℕ} {at e₁ e₂ : ℕ} → Written l at (audit_lines store n) e₁ m₁ → Written m₁ e₁ (twin_line store n finding) e₂ m₂
        → Written l at (audit_lines store (n + 1)) e₂ m₂
    unfolding audit_line
    line_more x y = lines.line_more (audit_line store) n x (said y (rw (a_twin, sym found)))

    pub tally_more : {copies alike covered before a b c d : ℕ} → Tallied store n copies alike covered before → a ≡ pick (is_copy finding) 1 0
        → b ≡ pick (is_alike finding) 1 0 → c ≡ pick (is_covered finding) 1 0 → d ≡ pick (is_before finding) 1 0
        → Tallied store (n + 1) (copies + a) (alike + b) (covered + c) (before + d)
    tally_more t p q r s = record {
      copies_is = let e = counted is_copy in let f = t.copies_is in omega arith;
      alike_is = let e = counted is_alike in let f = t.alike_is in omega arith;
      covered_is = let e = counted is_covered in let f = t.covered_is in omega arith;
      before_is = let e = counted is_before in let f = t.before_is in omega arith;
      few =
          let f = t.few in
          let i = one_most (is_copy finding) in
          let j = one_most (is_alike finding) in
          let k = one_most (is_covered finding) in
          let l = one_most (is_before finding) in
          (omega arith, omega arith, omega arith, omega arith);
    }

module _ (store : List ℕ) where
  pub no_tally : Tallied store 0 0 0 0 0
  unfolding twins_with
  no_tally = record { copies_is = refl; alike_is = refl; covered_is = refl; before_is = refl; few = (omega arith, omega arith, omega arith, omega arith) }

  -- the loop is done
  pub tallied : {l m₁ m₂ : List ℕ} {at e₁ e₂ copies alike covered before : ℕ} {faults : FaultCounts} (n count : ℕ) → n ≤ count → count ≤ n
      → Tallied store n copies alike covered before → faults ≡ counts_of (form_of 24) store → Written l at (audit_lines store n) e₁ m₁
      → Written m₁ e₁ (tally_line faults copies alike covered before) e₂ m₂ → Written l at (audit_lines store count ++ tally_of store count) e₂ m₂
  unfolding tally_of form_of
  tallied n count h k t f x y =
      let is : n ≡ count = omega arith in
      said (then x y) (rw (is, f, rw is at t.copies_is, rw is at t.alike_is, rw is at t.covered_is, rw is at t.before_is))

  pub refused_text : (answer : ℕ) → answer ≡ list_refusal (length store) most_records → (answer ≡ done → ⊥) → refusal_line answer ≡ audit_of store
  unfolding audit_of
  refused_text zero e r = absurd (r refl)
  refused_text (suc a) e r = rw (sym e)

  pub done_text : {l m₁ m₂ : List ℕ} {e₁ e₂ : ℕ} → list_refusal (length store) most_records ≡ done → Written l 0 columns_line e₁ m₁
      → Written m₁ e₁ (audit_lines store (records_in store) ++ tally_of store (records_in store)) e₂ m₂ → Written l 0 (audit_of store) e₂ m₂
  unfolding audit_of
  done_text e x y = said (then x y) (rw e)

pub number_is : {store lent after : List ℕ} {r : TwinList} → length lent ≡ most_records → Listed store lent r after → r.answer ≡ list_refusal (length store) most_records
number_is room d = listed.answer_number d ∙ rw room
