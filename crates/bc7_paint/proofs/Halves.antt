-- A loop that paints pixels k and k + 8 in a turn. Assumes nothing.
use mathlib.Core.Path.{◌≡◌, ◌∙◌, refl, sym, ap, subst}
use mathlib.Core.List.{List, ◌++◌}
use Prim.Native.Nat.{ℕ, ◌+◌, ◌-◌, ◌*◌, ◌/◌, ◌%◌, ◌<◌, ◌≤◌}
use native.Mathlib.Nat.{mod-lt}
use native.Mathlib.Omega.{arith}
use lib.Dec.{eqb, ltb, lit<}
use lib.ListN.{length, get_or, set, drop, length-set, length-append, length-drop, get_or-append}
use lib.Seq.{ext_get_or, get_or-append-add, get_or-drop, get_or-set_same, get_or-set_other}
use borrow.Author.Tests.{eqb-true, eqb-false, ltb-true, ltb-false}
use Rattle.laws.specs.Made.{made}
use Rattle.laws.proofs.Rows.{length_made, get_d_made}
use Rattle.laws.proofs.Tests.{cases}
use Rattle.bc7_paint.specs.Shades.{put}

-- ---- the bytes of one pixel

stored : (l : List ℕ) (n x i v : ℕ) → n < length l → (i ≡ n → x ≡ v) → ((i ≡ n → ⊥) → get_or l i 0 ≡ v) → get_or (set l n x) i 0 ≡ v
stored l n x i v h same other =
    cases (eqb i n)
    (λ e. let q = eqb-true i n e in ap (λ (j : ℕ). get_or (set l n x) j 0) q ∙ get_or-set_same l n x 0 h ∙ same q)
    (λ e. let q = eqb-false i n e in get_or-set_other l n i x 0 q ∙ other q)

module _ (g : ℕ → ℕ) (k : ℕ) (l : List ℕ) (i : ℕ) where
  -- the list after one store, after two, after three
  abbrev one : List ℕ
  one = set l (4 * k) (g 0)

  abbrev two : List ℕ
  two = set one (4 * k + 1) (g 1)

  abbrev three : List ℕ
  three = set two (4 * k + 2) (g 2)

  put_here : 4 * k + 3 < length l → i / 4 ≡ k → get_or (put g k l) i 0 ≡ g (i % 4)
  put_here h e =
      stored three (4 * k + 3) (g 3) i _ (simp length-set h) (λ q. let m : 3 ≡ i % 4 = omega arith in ap g m)
      (λ n₃. stored two (4 * k + 2) (g 2) i _ (simp length-set (omega arith)) (λ q. let m : 2 ≡ i % 4 = omega arith in ap g m)
      (λ n₂. stored one (4 * k + 1) (g 1) i _ (simp length-set (omega arith)) (λ q. let m : 1 ≡ i % 4 = omega arith in ap g m)
      (λ n₁. stored l (4 * k) (g 0) i _ (omega arith) (λ q. let m : 0 ≡ i % 4 = omega arith in ap g m) (λ n₀. absurd (omega arith)))))

  put_else : (i / 4 ≡ k → ⊥) → get_or (put g k l) i 0 ≡ get_or l i 0
  put_else n =
      get_or-set_other three (4 * k + 3) i (g 3) 0 (λ q. n (omega arith))
      ∙ get_or-set_other two (4 * k + 2) i (g 2) 0 (λ q. n (omega arith))
      ∙ get_or-set_other one (4 * k + 1) i (g 1) 0 (λ q. n (omega arith))
      ∙ get_or-set_other l (4 * k) i (g 0) 0 (λ q. n (omega arith))

pub room_after : (g : ℕ → ℕ) (k : ℕ) (l after : List ℕ) → after ≡ put g k l → 64 ≤ length l → 64 ≤ length after
room_after g k l after e h = subst (λ (t : List ℕ). 64 ≤ length t) (sym e) (simp length-set h)

-- ---- the two halves

-- pixels 0 to k - 1 and 8 to 8 + k - 1 are painted, and from byte 64 on out is l
pub record Halves (f : ℕ → ℕ) (k : ℕ) (l out : List ℕ) : Type 0 where
  pub painted : (i : ℕ) → i < 64 → i / 4 % 8 < k → get_or out i 0 ≡ f i
  pub kept : (i : ℕ) → 64 ≤ i → get_or out i 0 ≡ get_or l i 0
  pub long : length out ≡ length l

pub none_painted : (f : ℕ → ℕ) (l : List ℕ) → Halves f 0 l l
none_painted f l = record { painted = λ i h q. absurd (omega arith); kept = λ i h. refl; long = refl }

module _ {f : ℕ → ℕ} {k : ℕ} {l out : List ℕ} (e : Halves f k l out) (room : 64 ≤ length l) where
  -- the two pixels of turn k
  both_painted : (g h : ℕ → ℕ) → k < 8 → ((c : ℕ) → c < 4 → g c ≡ f (4 * k + c)) → ((c : ℕ) → c < 4 → h c ≡ f (4 * (k + 8) + c))
      → Halves f (k + 1) l (put h (k + 8) (put g k out))
  both_painted g h b eg eh =
      record {
        painted = λ i bi q.
            cases (eqb (i / 4) (k + 8))
            (λ t.
            let p = eqb-true (i / 4) (k + 8) t in
            let same : 4 * (k + 8) + i % 4 ≡ i = omega arith in
            put_here h (k + 8) (put g k out) i (simp length-set (omega (arith, e.long))) p ∙ eh (i % 4) (mod-lt i (lit< tt)) ∙ ap f same)
            (λ t.
            let p = eqb-false (i / 4) (k + 8) t in
            put_else h (k + 8) (put g k out) i p
            ∙ cases (eqb (i / 4) k)
            (λ u.
            let q = eqb-true (i / 4) k u in
            let same : 4 * k + i % 4 ≡ i = omega arith in
            put_here g k out i (omega (arith, e.long)) q ∙ eg (i % 4) (mod-lt i (lit< tt)) ∙ ap f same)
            (λ u.
            let r = eqb-false (i / 4) k u in
            put_else g k out i r ∙ e.painted i bi (omega (arith, p, r))));
        kept = λ i bi. put_else h (k + 8) (put g k out) i (λ t. omega arith) ∙ put_else g k out i (λ t. omega arith) ∙ e.kept i bi;
        long = simp length-set e.long;
      }

  pub turn_painted : (g h : ℕ → ℕ) (between after : List ℕ) → between ≡ put g k out → after ≡ put h (k + 8) between → k < 8
      → ((c : ℕ) → c < 4 → g c ≡ f (4 * k + c)) → ((c : ℕ) → c < 4 → h c ≡ f (4 * (k + 8) + c)) → Halves f (k + 1) l after
  turn_painted g h between after eb ea b eg eh = subst (Halves f (k + 1) l) (sym (ea ∙ ap (put h (k + 8)) eb)) (both_painted g h b eg eh)

  -- every pixel is painted
  pub all_painted : 8 ≤ k → out ≡ made f 64 ++ drop 64 l
  all_painted b =
      let first : length (made f 64) ≡ 64 = length_made f 64 in
      let long : length out ≡ length (made f 64 ++ drop 64 l) =
      e.long ∙ sym (length-append (made f 64) (drop 64 l) ∙ omega (arith, first, length-drop 64 l)) in
      ext_get_or 0 out (made f 64 ++ drop 64 l) long
      (λ i h.
      cases (ltb i 64)
      (λ t.
      let q = ltb-true i 64 t in
      e.painted i q (omega arith) ∙ sym (get_or-append (made f 64) (drop 64 l) 0 i (omega (arith, first)) ∙ get_d_made f 64 i 0 q))
      (λ t.
      let q = ltb-false i 64 t in
      let place : length (made f 64) + (i - 64) ≡ i = omega (arith, first) in
      let back : 64 + (i - 64) ≡ i = omega arith in
      e.kept i q
      ∙ sym (ap (λ (j : ℕ). get_or (made f 64 ++ drop 64 l) j 0) (sym place) ∙ get_or-append-add (made f 64) (drop 64 l) (i - 64) 0 ∙ get_or-drop 64 l (i - 64) 0
      ∙ ap (λ (j : ℕ). get_or l j 0) back)))
