-- Opening a probe: the copy of the table, and the statement at each return. Assumes nothing.
use mathlib.Core.Path.{◌≡◌, refl, sym, ◌∙◌, ap}
use mathlib.Core.List.{List, ◌++◌}
use Prim.Native.Nat.{ℕ, ◌≤◌, ◌<◌}
use native.Mathlib.Omega.{arith}
use lib.Dec.{eqb, ltb}
use lib.ListN.{length, get_or, take, drop}
use lib.Seq.{take_at, drop_at}
use borrow.Author.Tests.{lt-ltb, le-ltb, ne_eqb, ltb-false, eqb-true, eqb-false}
use Rattle.laws.proofs.Tests.{cases}
use Rattle.bcn_spec.specs.Answers.{done, short_output}
use Rattle.probe_places.specs.declared.Fault.{Fault}
use Rattle.probe_places.specs.Faults.{no_fault, fault_alone}
use Rattle.probe.specs.Probe.{place_count, probe_fault}
use Rattle.probe.specs.Held.{Checked}
use Rattle.probe_open.specs.Open.{open_fault, Opened}

-- ---- the copy

unfoldable pub entry_of : List ℕ → ℕ → ℕ
entry_of holders k = get_or holders k 0

pub entry_is : (holders : List ℕ) (k : ℕ) → get_or holders k 0 ≡ entry_of holders k
unfolding entry_of
entry_is holders k = refl

-- ---- the statement, at each return

module _ {store : List ℕ} {edge : ℕ} (lent : List ℕ) {fault : Fault} {holders : List ℕ} (d : Checked store edge fault holders) where
  answer_is : fault.answer ≡ (probe_fault store edge).answer
  answer_is = ap (λ (f : Fault). f.answer) d.answers

  pub open_refused : (fault.answer ≡ done → ⊥) → Opened store edge lent fault lent
  unfolding open_fault
  open_refused z = record {
    answers = d.answers ∙ rw (ne_eqb (probe_fault store edge).answer done (λ e. z (answer_is ∙ e)));
    holds = λ y. absurd (z y);
    behind = refl;
    silent = λ y. refl;
  }

  module _ (z : fault.answer ≡ done) where
    passed : (probe_fault store edge).answer ≡ done
    passed = sym answer_is ∙ z

    pub open_short : {r : Fault} → length lent < place_count → r ≡ fault_alone short_output → Opened store edge lent r lent
    unfolding open_fault
    open_short {r} l e = record {
      answers = e ∙ rw (passed, lt-ltb (length lent) place_count l);
      holds = λ y. absurd (omega (arith, sym (ap (λ (f : Fault). f.answer) e) ∙ y));
      behind = refl;
      silent = λ y. refl;
    }

    pub open_done : {r : Fault} {after : List ℕ} → place_count ≤ length lent → after ≡ holders ++ drop place_count lent → r ≡ no_fault → Opened store edge lent r after
    unfolding open_fault
    open_done {r} {after} l w e =
        let h = d.holds z in
        let front : take place_count after ≡ holders = ap (take place_count) w ∙ take_at holders (drop place_count lent) place_count h.size in
        record {
          answers = e ∙ rw (passed, le-ltb (length lent) place_count l);
          holds = λ y. rw front h;
          behind = ap (drop place_count) w ∙ drop_at holders (drop place_count lent) place_count h.size;
          silent = λ y. absurd (y (ap (λ (f : Fault). f.answer) e));
        }

-- what "done" says
pub open_known : {store : List ℕ} {edge : ℕ} {lent after : List ℕ} {r : Fault} → Opened store edge lent r after → r.answer ≡ done
    → ((probe_fault store edge).answer ≡ done) × (place_count ≤ length lent)
unfolding open_fault
open_known {store} {edge} {lent} {after} {r} d z =
    let y : (open_fault store edge (length lent)).answer ≡ done = sym (ap (λ (f : Fault). f.answer) d.answers) ∙ z in
    cases (eqb (probe_fault store edge).answer done)
    (λ t. cases (ltb (length lent) place_count) (λ s. absurd (omega (arith, rw (t, s) at y))) (λ s. (eqb-true _ _ t, ltb-false _ _ s)))
    (λ t. absurd (eqb-false _ _ t (rw t at y)))
