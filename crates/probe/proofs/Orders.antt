-- S-57: a probe answers the same for every order of its records. Assumes nothing.
use mathlib.Core.Path.{◌≡◌, refl, sym, ◌∙◌, ap, ap₂, subst}
use mathlib.Core.Bool.{not}
use mathlib.Core.List.{List, ◌∷◌}
use Prim.Native.Nat.{ℕ, zero, suc, ◌+◌, ◌*◌, ◌/◌, ◌%◌, ◌<◌}
use native.Mathlib.Omega.{arith}
use lib.Dec.{ltb, lit<, eqb→eq}
use lib.ListN.{length, get_or, take, drop, length-take, length-drop}
use lib.Seq.{ext_get_or, get_or-take, get_or-drop}
use Rattle.bcn_spec.specs.Answers.{done, bad_format, spare_byte}
use Rattle.bc6h_spec.specs.Picture.{is_signed}
use Rattle.bc6h_spec.specs.Block.{pixels_of}
use Rattle.probe_places.specs.declared.Fault.{Fault}
use Rattle.probe_places.specs.declared.Place.{Place}
use Rattle.probe_places.specs.Faults.{no_fault}
use Rattle.probe_places.specs.Places.{face_count, places_in, byte_at, pair_at, format_in, place_in, block_in, zero_byte, rest_zero, place_checks, place_record_refusal}
use Rattle.probe.specs.declared.ProbePixel.{ProbePixel}
use Rattle.probe.specs.Probe.{place_of, Filled, IsProbe, probe_fault, InRange, question_refusal, record_for, shown_in, triple_of, triple_at, triple_for, probed_at, triple_in, Asked}
use Rattle.laws.specs.Checks.{first_met}
use Rattle.laws.specs.Order.{record_in, Reordered}
use Rattle.laws.proofs.Orders.{come_from}
use Rattle.probe.proofs.Spots.{place_same}
use Rattle.probe.proofs.Checking.{inside}
use Rattle.probe.proofs.Telling.{passed_when}
use Rattle.probe.proofs.Probes.{for_inside, for_here, place_filled, place_once, passed_probe, probe_passes}

bytes_at : (store : List ℕ) (n k : ℕ) → k < 32 → get_or (record_in 32 store n) k 0 ≡ byte_at store n k
unfolding record_in
bytes_at store n k h = get_or-take 32 (drop (n * 32) store) k 0 h ∙ get_or-drop (n * 32) store k 0

-- ---- two records with the same bytes

module _ (s t : List ℕ) (m n : ℕ) (e : record_in 32 t n ≡ record_in 32 s m) where
  byte_same : (k : ℕ) → k < 32 → byte_at t n k ≡ byte_at s m k
  byte_same k h = sym (bytes_at t n k h) ∙ ap (λ (l : List ℕ). get_or l k 0) e ∙ bytes_at s m k h

  pub format_same : format_in t n ≡ format_in s m
  format_same = byte_same 4 (lit< tt)

  pair_same : (k : ℕ) → k < 31 → pair_at t n k ≡ pair_at s m k
  pair_same k h = ap₂ (λ (a b : ℕ). a + b * 0x100) (byte_same k (omega arith)) (byte_same (k + 1) (omega arith))

  pub place_is : place_in t n ≡ place_in s m
  place_is = place_same (place_in t n) (place_in s m) (byte_same 5 (lit< tt)) (pair_same 6 (lit< tt)) (pair_same 8 (lit< tt))

  rest_same : rest_zero t n ≡ rest_zero s m
  unfolding zero_byte rest_zero
  rest_same =
      rw
      (byte_same 10 (lit< tt), byte_same 11 (lit< tt), byte_same 12 (lit< tt), byte_same 13 (lit< tt), byte_same 14 (lit< tt), byte_same 15 (lit< tt))

  pub refusal_same : place_record_refusal t n ≡ place_record_refusal s m
  unfolding place_record_refusal
  refusal_same = λ i. first_met ((ltb 1 (format_same i), bad_format) ∷ (not (rest_same i), spare_byte) ∷ place_checks (place_is i))

  pub block_same : m < places_in s → n < places_in t → block_in t n ≡ block_in s m
  unfolding block_in
  block_same hm hn =
      let a : length (take 16 (drop (n * 32 + 16) t)) ≡ 16 = simp (length-take, length-drop) (omega arith) in
      let b : length (take 16 (drop (m * 32 + 16) s)) ≡ 16 = simp (length-take, length-drop) (omega arith) in
      ext_get_or 0 (take 16 (drop (n * 32 + 16) t)) (take 16 (drop (m * 32 + 16) s)) (a ∙ sym b) (λ k l.
      let h : k < 16 = omega arith in
      let i : n * 32 + 16 + k ≡ n * 32 + (16 + k) = omega arith in
      let j : m * 32 + 16 + k ≡ m * 32 + (16 + k) = omega arith in
      get_or-take 16 (drop (n * 32 + 16) t) k 0 h ∙ get_or-drop (n * 32 + 16) t k 0 ∙ ap (λ (x : ℕ). get_or t x 0) i
      ∙ byte_same (16 + k) (omega arith)
      ∙ sym (get_or-take 16 (drop (m * 32 + 16) s) k 0 h ∙ get_or-drop (m * 32 + 16) s k 0 ∙ ap (λ (x : ℕ). get_or s x 0) j))

-- ---- a store in another order

module _ {s t : List ℕ} (o : Reordered 32 s t) where
  module _ (n : ℕ) (h : n < places_in t) where
    place_from : place_in t n ≡ place_in s (o.from n)
    place_from = place_is s t (o.from n) n (o.same_bytes n h)

  -- a probe is one in every order
  module _ {edge : ℕ} (p : IsProbe s edge) where
    pub probe_ordered : IsProbe t edge
    probe_ordered = record {
      edge_first = p.edge_first;
      edge_last = p.edge_last;
      fits = let e : length t ≡ length s = o.same_size in let l = p.fits in omega arith;
      even = ap (λ (x : ℕ). x % 32) o.same_size ∙ p.even;
      unrefused = λ n h. refusal_same s t (o.from n) n (o.same_bytes n h) ∙ p.unrefused (o.from n) (o.inside n h);
      on_face = λ n h. subst (λ (q : Place). q.face < face_count) (sym (place_from n h)) (p.on_face (o.from n) (o.inside n h));
      column_inside = λ n h. subst (λ (q : Place). q.column < edge) (sym (place_from n h)) (p.column_inside (o.from n) (o.inside n h));
      row_inside = λ n h. subst (λ (q : Place). q.row < edge) (sym (place_from n h)) (p.row_inside (o.from n) (o.inside n h));
      filled_once = λ face column row f c r.
          let a = place_filled p face column row f c r in
          let b = come_from o a.at a.inside in
          let here : place_in t b.place ≡ place_of face column row = place_from b.place b.inside ∙ ap (place_in s) (eqb→eq _ _ b.there) ∙ a.here in
          record {
            filled = record { at = b.place; inside = b.inside; here = here };
            only = λ n h e. one_alone n b.place h b.inside (e ∙ sym here);
          };
    }
      where
        one_alone : (m n : ℕ) → m < places_in t → n < places_in t → place_in t m ≡ place_in t n → m ≡ n
        one_alone m n hm hn e =
            o.apart m n hm hn (place_once p (o.from m) (o.from n) (o.inside m hm) (o.inside n hn) (sym (place_from m hm) ∙ e ∙ place_from n hn))

    -- and shows the same
    module _ (face x y : ℕ) (i : InRange edge face x y) where
      there : Filled s (place_of face (x / 4) (y / 4))
      there = place_filled p face (x / 4) (y / 4) i.face_inside (let h = i.x_inside in omega arith) (let h = i.y_inside in omega arith)

      other : Filled t (place_of face (x / 4) (y / 4))
      other = place_filled probe_ordered face (x / 4) (y / 4) i.face_inside (let h = i.x_inside in omega arith) (let h = i.y_inside in omega arith)

      pub same_triple : triple_for t face x y ≡ triple_for s face x y
      unfolding triple_for triple_at shown_in
      same_triple =
          let q : Place = place_of face (x / 4) (y / 4) in
          let m : ℕ = record_for s (place_of face (x / 4) (y / 4)) in
          let n : ℕ = record_for t (place_of face (x / 4) (y / 4)) in
          let hm = for_inside s (place_of face (x / 4) (y / 4)) there in
          let hn = for_inside t (place_of face (x / 4) (y / 4)) other in
          let from : o.from (record_for t (place_of face (x / 4) (y / 4))) ≡ record_for s (place_of face (x / 4) (y / 4)) =
          place_once p _ _ (o.inside _ hn) hm
          (sym (place_from _ hn) ∙ for_here t (place_of face (x / 4) (y / 4)) other ∙ sym (for_here s (place_of face (x / 4) (y / 4)) there)) in
          let bytes : record_in 32 t (record_for t (place_of face (x / 4) (y / 4))) ≡ record_in 32 s (record_for s (place_of face (x / 4) (y / 4))) =
          o.same_bytes _ hn ∙ ap (record_in 32 s) from in
          ap₂ (λ (f : ℕ) (b : List ℕ). triple_of (pixels_of (is_signed f) b) (4 * (y % 4) + x % 4)) (format_same s t _ _ bytes) (block_same s t _ _ bytes hm hn)

-- ---- the theorem

-- a store that passes passes in every order ..
pub passes_ordered : {s t : List ℕ} → Reordered 32 s t → (edge : ℕ) → (probe_fault s edge).answer ≡ done → (probe_fault t edge).answer ≡ done
passes_ordered {s} {t} o edge z = ap (λ (x : Fault). x.answer) (probe_passes t edge (probe_ordered o (passed_probe s edge z)))

-- .. and every question has the same answer
pub any_order : {s t : List ℕ} → Reordered 32 s t → {edge face x y : ℕ} {r q : ProbePixel} → (probe_fault s edge).answer ≡ done
    → Asked s edge face x y r → Asked t edge face x y q → r ≡ q
any_order {s} {t} o {edge} {face} {x} {y} {r} {q} z a b =
    let p = passed_probe s edge z in
    let e : probe_fault s edge ≡ no_fault = probe_passes s edge p in
    let f : probe_fault t edge ≡ no_fault = probe_passes t edge (probe_ordered o p) in
    a.answers ∙ ap (λ (v : Fault). probed_at v.answer v.faulty (question_refusal edge face x y) (triple_for s face x y)) e
    ∙ go (question_refusal edge face x y) refl
    ∙ sym (b.answers ∙ ap (λ (v : Fault). probed_at v.answer v.faulty (question_refusal edge face x y) (triple_for t face x y)) f)
  where
    go : (k : ℕ) → question_refusal edge face x y ≡ k
        → probed_at 0 0 (question_refusal edge face x y) (triple_for s face x y) ≡ probed_at 0 0 (question_refusal edge face x y) (triple_for t face x y)
    go zero w = ap (probed_at 0 0 (question_refusal edge face x y)) (sym (same_triple o (passed_probe s edge z) face x y (inside edge face x y w)))
    go (suc k) w = rw w

-- so where the one is done the other is, with the same triple
pub done_ordered : {s t : List ℕ} → Reordered 32 s t → {edge face x y : ℕ} {r q : ProbePixel} → Asked s edge face x y r → Asked t edge face x y q
    → r.answer ≡ done → (q.answer ≡ done) × (triple_in r ≡ triple_in q)
done_ordered o {edge} {face} {x} {y} {r} {q} a b z =
    let e : r ≡ q = any_order o (passed_when a z) a b in
    (ap (λ (p : ProbePixel). p.answer) (sym e) ∙ z, ap triple_in e)
