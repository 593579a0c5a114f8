-- A pixel by the table: which check refuses it, and that a table which opening left gives what the probe gives. Assumes nothing.
use mathlib.Core.Path.{◌≡◌, refl, sym, ◌∙◌, ap}
use mathlib.Core.Bool.{true}
use mathlib.Core.List.{List}
use Prim.Native.Nat.{ℕ, zero, suc, ◌+◌, ◌-◌, ◌*◌, ◌/◌, ◌%◌, ◌≤◌, ◌<◌}
use native.Mathlib.Omega.{arith}
use lib.ListN.{length, get_or, take, length-take}
use lib.Seq.{get_or-take}
use borrow.Author.Tests.{lt-ltb, le-ltb, ltb-false, ne_eqb, eqb-false}
use Rattle.laws.proofs.Tests.{cases}
use Rattle.laws.proofs.Checks.{none_met}
use Rattle.bcn_spec.specs.Answers.{done, bad_format, short_output, no_record, bad_edge, empty_place}
use Rattle.probe_places.specs.declared.Fault.{Fault}
use Rattle.probe_places.specs.Places.{places_in, format_in}
use Rattle.probe.specs.declared.ProbePixel.{ProbePixel}
use Rattle.probe.specs.Probe.{edge_limit, place_of, place_count, place_number, IsProbe, InRange, edge_fits, has_pixel, question_refusal, triple_at, triple_for, probe_shown, probe_refused, Asked}
use Rattle.probe.specs.Held.{Held, RecordOf}
use Rattle.probe.proofs.Asking.{holder_there, holder_record, record_triple}
use Rattle.probe.proofs.Checking.{inside}
use Rattle.probe.proofs.Probes.{passed_probe}
use Rattle.probe_open.specs.Open.{Opened, holder_checks, holder_refusal, holder_at, table_refusal, table_shown, TablePixel}
use Rattle.probe_open.proofs.Opening.{open_known}

-- ---- the holder

module _ (store : List ℕ) (holder : ℕ) where
  pub holder_none : holder ≡ 0 → empty_place ≡ holder_refusal store holder
  unfolding holder_refusal
  holder_none e = rw e

  module _ (z : holder ≡ 0 → ⊥) where
    pub holder_past : places_in store < holder → no_record ≡ holder_refusal store holder
    unfolding holder_refusal
    holder_past h = rw (ne_eqb holder 0 z, lt-ltb (places_in store) holder h)

    module _ (h : holder ≤ places_in store) where
      pub holder_format : 1 < format_in store (holder - 1) → bad_format ≡ holder_refusal store holder
      unfolding holder_refusal
      holder_format f = rw (ne_eqb holder 0 z, le-ltb (places_in store) holder h, lt-ltb 1 (format_in store (holder - 1)) f)

      pub holder_fine : format_in store (holder - 1) ≤ 1 → done ≡ holder_refusal store holder
      unfolding holder_refusal
      holder_fine f = rw (ne_eqb holder 0 z, le-ltb (places_in store) holder h, le-ltb 1 (format_in store (holder - 1)) f)

-- what a holder that is not refused says
pub record HolderKnown (store : List ℕ) (holder : ℕ) : Type 0 where
  pub there : 1 ≤ holder
  pub inside : holder - 1 < places_in store
  pub format : format_in store (holder - 1) ≤ 1

pub holder_known : (store : List ℕ) (holder : ℕ) {refusal : ℕ} → refusal ≡ holder_refusal store holder → refusal ≡ done → HolderKnown store holder
unfolding holder_refusal
holder_known store holder e z =
    let none = none_met (holder_checks store holder) tt (sym e ∙ z) in
    let there = eqb-false holder 0 none.0 in
    let within = ltb-false (places_in store) holder none.1.0 in
    record { there = omega (arith, there); inside = omega (arith, there, within); format = ltb-false 1 _ none.1.1.0 }

-- ---- the statement, at each return

module _ (store table : List ℕ) (edge face x y : ℕ) where
  told : {refusal : ℕ} {r : ProbePixel} → refusal ≡ table_refusal store table edge face x y → (refusal ≡ done → ⊥) → r ≡ probe_refused refusal 0
      → TablePixel store table edge face x y r
  told {refusal} {r} e z q = record { answers = go (table_refusal store table edge face x y) e }
    where
      go : (k : ℕ) → refusal ≡ k → r ≡ table_shown k (triple_at store (holder_at table face x y - 1) (4 * (y % 4) + x % 4))
      go zero w = absurd (z w)
      go (suc k) w = q ∙ rw w

  pub ask_no_edge : {r : ProbePixel} → edge ≡ 0 → r ≡ probe_refused bad_edge 0 → TablePixel store table edge face x y r
  unfolding table_refusal
  ask_no_edge e q = told (rw e) (λ z. omega arith) q

  pub ask_long_edge : {r : ProbePixel} → edge_limit < edge → r ≡ probe_refused bad_edge 0 → TablePixel store table edge face x y r
  unfolding table_refusal
  ask_long_edge h q = told (rw (lt-ltb 0 edge (omega arith), le-ltb edge (edge_limit + 1) (omega arith))) (λ z. omega arith) q

  module _ (a : edge ≡ 0 → ⊥) (b : edge ≤ edge_limit) where
    edges : edge_fits edge ≡ true
    edges = rw (lt-ltb 0 edge (omega (arith, a)), lt-ltb edge (edge_limit + 1) (omega arith))

    pub ask_question : {question : ℕ} {r : ProbePixel} → question ≡ question_refusal edge face x y → (question ≡ done → ⊥) → r ≡ probe_refused question 0
        → TablePixel store table edge face x y r
    unfolding question_refusal table_refusal
    ask_question e z q = cases (has_pixel edge face x y) (λ t. absurd (z (e ∙ rw t))) (λ f. told (e ∙ rw (edges, f)) z q)

    module _ (fine : question_refusal edge face x y ≡ done) where
      pixel : has_pixel edge face x y ≡ true
      unfolding question_refusal
      pixel = cases (has_pixel edge face x y) (λ t. t) (λ f. absurd (omega (arith, rw f at fine)))

      pub ask_short : {r : ProbePixel} → length table < place_count → r ≡ probe_refused short_output 0 → TablePixel store table edge face x y r
      unfolding table_refusal
      ask_short h q = told (rw (edges, pixel, lt-ltb (length table) place_count h)) (λ z. omega arith) q

      module _ (long : place_count ≤ length table) {holder refusal : ℕ} (w : holder ≡ holder_at table face x y) (e : refusal ≡ holder_refusal store holder) where
        is : refusal ≡ table_refusal store table edge face x y
        unfolding holder_refusal table_refusal
        is = e ∙ ap (holder_refusal store) w ∙ rw (edges, pixel, le-ltb (length table) place_count long)

        pub ask_holder : {r : ProbePixel} → (refusal ≡ done → ⊥) → r ≡ probe_refused refusal 0 → TablePixel store table edge face x y r
        ask_holder z q = told is z q

        pub ask_done : {triple : List ℕ} → refusal ≡ done → triple ≡ triple_at store (holder - 1) (4 * (y % 4) + x % 4)
            → TablePixel store table edge face x y (probe_shown triple)
        ask_done z t = record { answers = rw (sym is ∙ z) (ap probe_shown (t ∙ ap (λ (h : ℕ). triple_at store (h - 1) (4 * (y % 4) + x % 4)) w)) }

-- ---- a table that opening left: what `probe_pixel` answers

module _ {store : List ℕ} {edge : ℕ} (p : IsProbe store edge) (table : List ℕ) (d : Held store (places_in store) (take place_count table)) (long : place_count ≤ length table)
    {face x y : ℕ} (i : InRange edge face x y) where
  number_small : place_number (place_of face (x / 4) (y / 4)) < place_count
  number_small = let a = i.face_inside in let b = i.x_inside in let e = i.y_inside in let l = p.edge_last in omega arith

  same_holder : holder_at table face x y ≡ get_or (take place_count table) (place_number (place_of face (x / 4) (y / 4))) 0
  same_holder = sym (get_or-take place_count table (place_number (place_of face (x / 4) (y / 4))) 0 number_small)

  column_inside : x / 4 < edge
  column_inside = let b = i.x_inside in omega arith

  row_inside : y / 4 < edge
  row_inside = let b = i.y_inside in omega arith

  pub table_there : holder_at table face x y ≡ 0 → ⊥
  table_there = holder_there p d i.face_inside column_inside row_inside refl same_holder

  pub table_record : RecordOf store (place_of face (x / 4) (y / 4)) (holder_at table face x y - 1)
  table_record = holder_record p d i.face_inside column_inside row_inside refl same_holder

  pub table_fine : holder_refusal store (holder_at table face x y) ≡ done
  table_fine =
      let h = holder_at table face x y in
      let l = table_record.inside in
      sym (holder_fine store (holder_at table face x y) table_there (omega (arith, table_there)) table_record.format)

  pub table_triple : triple_at store (holder_at table face x y - 1) (4 * (y % 4) + x % 4) ≡ triple_for store face x y
  table_triple = record_triple x y table_record refl

pub opened_same : {store : List ℕ} {edge : ℕ} {lent table : List ℕ} {opened : Fault} → Opened store edge lent opened table → opened.answer ≡ done
    → (face x y : ℕ) {r : ProbePixel} → TablePixel store table edge face x y r → Asked store edge face x y r
unfolding question_refusal holder_refusal table_refusal
opened_same {store} {edge} {lent} {table} d z face x y t =
    let known = open_known d z in
    let long : place_count ≤ length table = omega (arith, simp length-take at (d.holds z).size) in
    let p = passed_probe store edge known.0 in
    let edges : edge_fits edge ≡ true = rw (lt-ltb 0 edge p.edge_first, lt-ltb edge (edge_limit + 1) (omega (arith, p.edge_last))) in
    cases (has_pixel edge face x y)
    (λ h.
    let i : InRange edge face x y = inside edge face x y (rw h) in
    record { answers = t.answers ∙ rw (edges, h, known.0, le-ltb (length table) place_count long, table_fine p table (d.holds z) long i, table_triple p table (d.holds z) long i) })
    (λ h. record { answers = t.answers ∙ rw (edges, h, known.0) })
