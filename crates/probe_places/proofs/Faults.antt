-- Laws of `first_fault`: a search for the first refused record, and what its outcome means. Assumes nothing.
use mathlib.Core.Path.{◌≡◌, refl, sym, ◌∙◌, ap}
use mathlib.Core.Bool.{true, false}
use Prim.Native.Nat.{ℕ, zero, suc, ◌≤◌, ◌<◌}
use native.Mathlib.Omega.{arith}
use lib.Dec.{eqb, ltb}
use borrow.Author.Tests.{lt-ltb, le-ltb, eq-eqb, ne_eqb, eqb-true, ltb-true, ltb-false}
use Rattle.laws.specs.First.{first_below}
use Rattle.laws.proofs.Tests.{cases}
use Rattle.laws.proofs.Firsts.{first_end, first_at, first_passes, first_least, first_never, first_same}
use Rattle.laws.proofs.Sameness.{true_false}
use Rattle.bcn_spec.specs.Answers.{done}
use Rattle.probe_places.specs.declared.Fault.{Fault}
use Rattle.probe_places.specs.Faults.{no_fault, is_faulty, first_fault, fault_alone, whole_first}

-- a refusal that a record has: the number and the record, and that no earlier one is refused
pub record Told (refusal : ℕ → ℕ) (count number faulty : ℕ) : Type 0 where
  pub inside : faulty < count
  pub refused : refusal faulty ≡ number
  pub first : (n : ℕ) → n < faulty → refusal n ≡ done

module _ (refusal : ℕ → ℕ) where
  pub passes : {answer n : ℕ} → answer ≡ refusal n → answer ≡ done → is_faulty refusal n ≡ false
  unfolding is_faulty
  passes {answer} {n} e z = let q : refusal n ≡ done = sym e ∙ z in rw (eq-eqb (refusal n) done q)

  pub fails : {answer n : ℕ} → answer ≡ refusal n → (answer ≡ done → ⊥) → is_faulty refusal n ≡ true
  unfolding is_faulty
  fails {answer} {n} e z = rw (ne_eqb (refusal n) done (λ q. z (e ∙ q)))

  unfaulty : (n : ℕ) → (is_faulty refusal n ≡ true → ⊥) → refusal n ≡ done
  unfolding is_faulty
  unfaulty n f = cases (eqb (refusal n) done) (λ t. eqb-true _ _ t) (λ u. absurd (f (rw u)))

  is_faulty_lem : (n : ℕ) → is_faulty refusal n ≡ true → refusal n ≡ done → ⊥
  unfolding is_faulty
  is_faulty_lem n t z = true_false (sym t ∙ rw (eq-eqb (refusal n) done z))

  -- the search stands at n exactly where none before n is refused
  stands : (n : ℕ) → ((k : ℕ) → k < n → refusal k ≡ done) → first_below (is_faulty refusal) n ≡ n
  stands n p = first_same (is_faulty refusal) (λ k. false) n (λ k h. passes refl (p k h)) ∙ first_never (λ k. false) (λ k. refl) n

  pub passed_by : (n : ℕ) → first_below (is_faulty refusal) n ≡ n → (k : ℕ) → k < n → refusal k ≡ done
  passed_by n e k h = unfaulty k (λ t. omega (arith, e, first_least (is_faulty refusal) n k h t))

  module _ (count : ℕ) where
    -- a search that found a refused record, and one that came to the end
    pub fault_here : {answer n : ℕ} → first_below (is_faulty refusal) n ≡ n → n < count → answer ≡ refusal n → (answer ≡ done → ⊥)
        → record { answer = answer; faulty = n } ≡ first_fault refusal count
    unfolding first_fault
    fault_here {answer} {n} e h a z =
        let f : first_below (is_faulty refusal) count ≡ n = first_at (is_faulty refusal) count n e (fails a z) h in
        rw (f, lt-ltb n count h, a)

    pub fault_none : {n : ℕ} → first_below (is_faulty refusal) n ≡ n → n ≤ count → count ≤ n → no_fault ≡ first_fault refusal count
    unfolding first_fault
    fault_none {n} e h l =
        let f : first_below (is_faulty refusal) count ≡ count = first_end (is_faulty refusal) count n h l e in
        rw (f, le-ltb count count (omega arith))

    -- what an outcome means
    before : (n : ℕ) → n < count → n < first_below (is_faulty refusal) count → refusal n ≡ done
    before n h l = unfaulty n (λ t. omega (arith, first_least (is_faulty refusal) count n h t))

    pub none_faulty : (first_fault refusal count).answer ≡ done → (n : ℕ) → n < count → refusal n ≡ done
    unfolding first_fault
    none_faulty e n h =
        cases (ltb (first_below (is_faulty refusal) count) count)
        (λ t. absurd (is_faulty_lem _ (first_passes (is_faulty refusal) count (ltb-true _ _ t)) (rw t at e)))
        (λ f. before n h (let l : count ≤ first_below (is_faulty refusal) count = ltb-false _ _ f in omega arith))

    pub all_pass : ((n : ℕ) → n < count → refusal n ≡ done) → first_fault refusal count ≡ no_fault
    all_pass p = sym (fault_none (stands count p) (omega arith) (omega arith))

    pub fault_told : {k : ℕ} → (first_fault refusal count).answer ≡ suc k → Told refusal count (suc k) (first_fault refusal count).faulty
    unfolding first_fault
    fault_told {k} e =
        cases (ltb (first_below (is_faulty refusal) count) count)
        (λ t. rw t (let l = ltb-true _ _ t in record { inside = l; refused = rw t at e; first = λ n h. before n (omega arith) h }))
        (λ f. absurd (omega (arith, rw f at e)))

    -- no record is told where none is refused
    pub none_told : (first_fault refusal count).answer ≡ done → (first_fault refusal count).faulty ≡ 0
    none_told e = ap (λ (x : Fault). x.faulty) (all_pass (none_faulty e))

-- ---- a check of the whole store first

pub whole_done : (number : ℕ) (fault : Fault) → (whole_first number fault).answer ≡ done → (number ≡ done) × (fault.answer ≡ done)
whole_done zero fault e = (refl, e)
whole_done (suc number) fault e = absurd (omega arith)

pub whole_passes : {number : ℕ} {fault r : Fault} → number ≡ done → r ≡ fault → r ≡ whole_first number fault
whole_passes z e = rw z e

pub whole_refuses : (k : ℕ) {number : ℕ} (fault : Fault) {r : Fault} → number ≡ suc k → r ≡ fault_alone (suc k) → r ≡ whole_first number fault
whole_refuses k fault z e = rw z e
