-- Which check gives the face call its answer, its statement at each return, and what it says. Assumes nothing.
use mathlib.Core.Path.{◌≡◌, ◌∙◌, sym, ap}
use mathlib.Core.List.{List, ◌++◌}
use Prim.Native.Nat.{ℕ, suc, ◌+◌, ◌-◌, ◌*◌, ◌/◌, ◌%◌, ◌≤◌, ◌<◌}
use native.Mathlib.Omega.{arith}
use lib.ListN.{length, get_or, drop}
use borrow.Author.Tests.{lt-ltb, le-ltb, ltb-true, ltb-false, not-false}
use Rattle.laws.specs.Made.{made, join}
use Rattle.laws.proofs.Checks.{none_met}
use Rattle.laws.proofs.Rows.{get_d_made}
use Rattle.bcn_spec.specs.Answers.{done, short_output, no_pixel}
use Rattle.probe_places.specs.declared.Fault.{Fault}
use Rattle.probe_places.specs.Faults.{no_fault, fault_alone}
use Rattle.probe_places.specs.Places.{face_count}
use Rattle.probe.specs.declared.ProbePixel.{ProbePixel}
use Rattle.probe.specs.Probe.{IsProbe, probe_fault, question_refusal, triple_for, triple_in, Asked}
use Rattle.probe.specs.Held.{Checked}
use Rattle.probe.proofs.Checking.{then_done, then_records, then_alone_lem, in_range}
use Rattle.probe.proofs.Probes.{passed_probe}
use Rattle.probe.proofs.Telling.{answer_number, done_triple}
use Rattle.probe_faces.specs.Face.{row_value, face_row, face_of, face_checks, face_refusal, face_fault, FacePainted}
use Rattle.probe_faces.specs.Strip.{four_rows}
use Rattle.laws.proofs.Joined.{run_length, run_value}
use Rattle.probe_faces.proofs.Strips.{row_length, four_length, by_fours}

pub face_length : (store : List ℕ) (edge face : ℕ) → length (face_of store edge face) ≡ 48 * edge * edge
unfolding face_of
face_length store edge face =
    ap length (sym (by_fours store edge face edge)) ∙ run_length (four_rows store edge face) (48 * edge) (four_length store edge face) edge

-- all rows are painted, four by four
pub face_painted : (store : List ℕ) (edge face : ℕ) (out : List ℕ) {after : List ℕ} → after ≡ join (made (four_rows store edge face) edge) ++ drop (48 * edge * edge) out
    → after ≡ face_of store edge face ++ drop (48 * edge * edge) out
unfolding face_of
face_painted store edge face out e = e ∙ ap (λ (t : List ℕ). t ++ drop (48 * edge * edge) out) (by_fours store edge face edge)

-- ---- the checks

module _ (edge face room : ℕ) where
  pub off_face : face_count ≤ face → no_pixel ≡ face_refusal edge face room
  unfolding face_refusal
  off_face h = rw (le-ltb _ _ h)

  pub short : face < face_count → room < 48 * edge * edge → short_output ≡ face_refusal edge face room
  unfolding face_refusal
  short h l = rw (lt-ltb _ _ h, lt-ltb _ _ l)

  pub fine : face < face_count → 48 * edge * edge ≤ room → done ≡ face_refusal edge face room
  unfolding face_refusal
  fine h l = rw (lt-ltb _ _ h, le-ltb _ _ l)

  pub record Roomy : Type 0 where
    pub on_face : face < face_count
    pub enough : 48 * edge * edge ≤ room

  pub roomy : face_refusal edge face room ≡ done → Roomy
  unfolding face_refusal
  roomy z =
      let m = none_met (face_checks edge face room) tt z in
      record { on_face = ltb-true _ _ (not-false _ m.0); enough = ltb-false _ _ m.1.0 }

-- ---- the statement, at each return

module _ {store : List ℕ} {edge : ℕ} (face : ℕ) (lent : List ℕ) {fault : Fault} {holders : List ℕ} (d : Checked store edge fault holders) where
  by_number : {r : Fault} → r ≡ face_fault store edge face (length lent) → (r.answer ≡ done → ⊥) → FacePainted store edge face lent r lent
  by_number {r} e n =
      let s : (face_fault store edge face (length lent)).answer ≡ suc (r.answer - 1) = omega (arith, ap (λ (x : Fault). x.answer) e) in
      record { answers = e; holds = rw s }

  pub painted_fault : (fault.answer ≡ done → ⊥) → FacePainted store edge face lent fault lent
  unfolding face_fault
  painted_fault n = by_number (then_records (face_refusal edge face (length lent)) d.answers n) n

  module _ (z : fault.answer ≡ done) {refusal : ℕ} (e : refusal ≡ face_refusal edge face (length lent)) where
    alone : fault_alone refusal ≡ face_fault store edge face (length lent)
    unfolding face_fault
    alone = ap fault_alone e ∙ then_alone_lem (face_refusal edge face (length lent)) d.answers z

    pub painted_refused : {r : Fault} → (refusal ≡ done → ⊥) → r ≡ fault_alone refusal → FacePainted store edge face lent r lent
    painted_refused n q = by_number (q ∙ alone) (λ y. n (sym (ap (λ (x : Fault). x.answer) q) ∙ y))

    pub painted_done : {r : Fault} {after : List ℕ} → refusal ≡ done → r ≡ no_fault → after ≡ face_of store edge face ++ drop (48 * edge * edge) lent
        → FacePainted store edge face lent r after
    painted_done n q h =
        let a : (face_fault store edge face (length lent)).answer ≡ done = ap (λ (x : Fault). x.answer) (sym alone) ∙ n in
        record { answers = q ∙ ap fault_alone (sym n) ∙ alone; holds = rw (a, face_length store edge face) h }

-- ---- what it says

module _ {store : List ℕ} {edge face : ℕ} {lent after : List ℕ} {r : Fault} (d : FacePainted store edge face lent r after) where
  pub one_outcome : {s : Fault} {other : List ℕ} → FacePainted store edge face lent s other → (r ≡ s) × (after ≡ other)
  one_outcome e = (d.answers ∙ sym e.answers, d.holds ∙ sym e.holds)

  answer_is : (face_fault store edge face (length lent)).answer ≡ r.answer
  answer_is = sym (ap (λ (x : Fault). x.answer) d.answers)

  pub silent : (r.answer ≡ done → ⊥) → after ≡ lent
  silent n = let s : (face_fault store edge face (length lent)).answer ≡ suc (r.answer - 1) = omega (arith, answer_is) in rw s at d.holds

  module _ (z : r.answer ≡ done) where
    whole : after ≡ face_of store edge face ++ drop (length (face_of store edge face)) lent
    whole = rw (answer_is ∙ z) at d.holds

    -- pixel by pixel it is what the pixel call answers: the three values of (x, y) stand at 3 (4 n y + x)
    pub pixel_same : (x y c : ℕ) → x < 4 * edge → y < 4 * edge → c < 3 → get_or after (12 * edge * y + (3 * x + c)) 0 ≡ get_or (triple_for store face x y) c 0
    unfolding face_of face_row row_value
    pixel_same x y c hx hy hc =
        let a : (3 * x + c) / 3 ≡ x = omega arith in
        let b : (3 * x + c) % 3 ≡ c = omega arith in
        ap (λ (t : List ℕ). get_or t (12 * edge * y + (3 * x + c)) 0) whole
        ∙ run_value (face_row store edge face) (12 * edge) (row_length store edge face) (4 * edge) y (3 * x + c) _ hy (omega arith)
        ∙ get_d_made (row_value store face y) (12 * edge) (3 * x + c) 0 (omega arith)
        ∙ rw (a, b)

    dones : ((probe_fault store edge).answer ≡ done) × (face_refusal edge face (length lent) ≡ done)
    unfolding face_fault
    dones = then_done (probe_fault store edge) (face_refusal edge face (length lent)) (answer_is ∙ z)

    pub done_probe : IsProbe store edge
    done_probe = passed_probe store edge dones.0

    -- .. whatever the pixel call answers by its statement
    pub as_asked : (x y c : ℕ) → x < 4 * edge → y < 4 * edge → c < 3 → {q : ProbePixel} → Asked store edge face x y q
        → get_or after (12 * edge * y + (3 * x + c)) 0 ≡ get_or (triple_in q) c 0
    as_asked x y c hx hy hc {q} a =
        let r = roomy edge face (length lent) dones.1 in
        let i : question_refusal edge face x y ≡ done = in_range edge face x y r.on_face (omega arith) (omega arith) in
        let w : q.answer ≡ done = answer_number a ∙ rw (dones.0, i) in
        pixel_same x y c hx hy hc ∙ ap (λ (l : List ℕ). get_or l c 0) (sym (done_triple a w))
