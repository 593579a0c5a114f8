-- One outcome each: no other table is right for a probe, and no other pixel for a table. Assumes nothing.
use mathlib.Core.Path.{◌≡◌, refl, sym, ◌∙◌, ap, ap₂}
use mathlib.Core.List.{List, ◌++◌}
use Prim.Native.Nat.{ℕ, zero, suc, ◌<◌}
use native.Mathlib.Omega.{arith}
use lib.Dec.{eqb}
use lib.ListN.{get_or, take, drop, take-append-drop}
use borrow.Author.Tests.{eqb-true, eqb-false}
use Rattle.laws.proofs.Tests.{cases}
use Rattle.laws.proofs.Rows.{made_each}
use Rattle.bcn_spec.specs.Answers.{done}
use Rattle.probe_places.specs.declared.Fault.{Fault}
use Rattle.probe_places.specs.Places.{places_in, place_in}
use Rattle.probe.specs.declared.ProbePixel.{ProbePixel}
use Rattle.probe.specs.Probe.{IsProbe, place_count, place_number}
use Rattle.probe.specs.Held.{Held}
use Rattle.probe.proofs.Spots.{number_apart}
use Rattle.probe.proofs.Probes.{place_once, passed_probe}
use Rattle.probe_open.specs.Open.{Opened, TablePixel}
use Rattle.probe_open.proofs.Opening.{entry_of, entry_is, open_known}

module _ {store : List ℕ} {edge : ℕ} (p : IsProbe store edge) where
  -- two records at the place of one number are one
  one_record : (m k : ℕ) → m < places_in store → k < places_in store → place_number (place_in store m) ≡ place_number (place_in store k) → m ≡ k
  one_record m k hm hk e =
      let l = p.edge_last in
      let a = p.column_inside m hm in
      let b = p.row_inside m hm in
      let c = p.column_inside k hk in
      let d = p.row_inside k hk in
      place_once p m k hm hk (number_apart (place_in store m) (place_in store k) (omega arith) (omega arith) (omega arith) (omega arith) e)

  module _ {t u : List ℕ} (d : Held store (places_in store) t) (e : Held store (places_in store) u) where
    same_entry : (n : ℕ) → get_or t n 0 ≡ get_or u n 0
    same_entry n = go (get_or t n 0) (get_or u n 0) refl refl
      where
        go : (i j : ℕ) → get_or t n 0 ≡ i → get_or u n 0 ≡ j → get_or t n 0 ≡ get_or u n 0
        go zero zero x y = x ∙ sym y
        go (suc m) zero x y = let o = d.only n m x in absurd (e.has m o.0 (ap (λ (k : ℕ). get_or u k 0) o.1 ∙ y))
        go zero (suc m) x y = let o = e.only n m y in absurd (d.has m o.0 (ap (λ (k : ℕ). get_or t k 0) o.1 ∙ x))
        go (suc m) (suc k) x y =
            let a = d.only n m x in
            let b = e.only n k y in
            x ∙ ap suc (one_record m k a.0 b.0 (a.1 ∙ sym b.1)) ∙ sym y

    same_table : t ≡ u
    same_table =
        made_each (entry_of u) t place_count d.size (λ k h. same_entry k ∙ entry_is u k)
        ∙ sym (made_each (entry_of u) u place_count e.size (λ k h. entry_is u k))

pub one_outcome : {store : List ℕ} {edge : ℕ} {lent a b : List ℕ} {r s : Fault} → Opened store edge lent r a → Opened store edge lent s b → (r ≡ s) × (a ≡ b)
one_outcome {store} {edge} {lent} {a} {b} {r} {s} d e = (
  same,
  cases (eqb r.answer done)
      (λ t.
      let z : r.answer ≡ done = eqb-true _ _ t in
      let y : s.answer ≡ done = sym (ap (λ (f : Fault). f.answer) same) ∙ z in
      let p : IsProbe store edge = passed_probe store edge (open_known d z).0 in
      let front : take place_count a ≡ take place_count b = same_table p (d.holds z) (e.holds y) in
      let rest : drop place_count a ≡ drop place_count b = d.behind ∙ sym e.behind in
      sym (take-append-drop place_count a) ∙ ap₂ (λ (x y : List ℕ). x ++ y) front rest ∙ take-append-drop place_count b)
      (λ t.
      let n : r.answer ≡ done → ⊥ = eqb-false _ _ t in
      d.silent n ∙ sym (e.silent (λ y. n (ap (λ (f : Fault). f.answer) same ∙ y)))),
)
  where
    same : r ≡ s
    same = d.answers ∙ sym e.answers

pub one_pixel : {store table : List ℕ} {edge face x y : ℕ} {r s : ProbePixel} → TablePixel store table edge face x y r → TablePixel store table edge face x y s → r ≡ s
one_pixel d e = d.answers ∙ sym e.answers
