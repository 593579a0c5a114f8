-- Numbers below a that go to numbers below b, no two to the same. Assumes nothing.
use mathlib.Core.Path.{◌≡◌, refl, sym, ◌∙◌, ap}
use mathlib.Core.Bool.{Bool, false}
use Prim.Native.Nat.{ℕ, zero, suc, ◌≤◌, ◌<◌}
use native.Mathlib.Omega.{arith}
use lib.Dec.{eqb}
use borrow.Author.Tests.{eq-eqb, ne_eqb, eqb-true, eqb-false}
use Rattle.laws.specs.Pick.{pick}
use Rattle.laws.specs.Search.{some}
use Rattle.laws.proofs.Tests.{cases}
use Rattle.laws.proofs.Search.{Found, some_found, some_at, holds, is_true}
use Rattle.laws.proofs.Sameness.{true_false}

pub record Into (a b : ℕ) (f : ℕ → ℕ) : Type 0 where
  pub inside : (k : ℕ) → k < a → f k < b
  pub apart : (i j : ℕ) → i < a → j < a → f i ≡ f j → i ≡ j

-- f with what goes to b sent where the last number goes
unfoldable turned : (ℕ → ℕ) → ℕ → ℕ → ℕ → ℕ
turned f a b k = pick (eqb (f k) b) (f a) (f k)

module _ (f : ℕ → ℕ) (a b : ℕ) (d : Into (suc a) (suc b) f) where
  turned_hit : (k : ℕ) → f k ≡ b → turned f a b k ≡ f a
  unfolding turned
  turned_hit k e = rw (eq-eqb (f k) b e)

  turned_miss : (k : ℕ) → (f k ≡ b → ⊥) → turned f a b k ≡ f k
  unfolding turned
  turned_miss k e = rw (ne_eqb (f k) b e)

  last_other : (k : ℕ) → k < a → f k ≡ f a → ⊥
  last_other k h e = let s : k ≡ a = d.apart k a (omega arith) (omega arith) e in omega arith

  turned_into : Into a b (turned f a b)
  turned_into = record {
    inside = λ k h.
        cases (eqb (f k) b)
        (λ t. let e : f k ≡ b = eqb-true _ _ t in
        let q : f a ≡ b → ⊥ = λ z. last_other k h (e ∙ sym z) in
        rw (turned_hit k e) (omega (arith, d.inside a (omega arith), q)))
        (λ t. let e : f k ≡ b → ⊥ = eqb-false _ _ t in rw (turned_miss k e) (omega (arith, d.inside k (omega arith), e)));
    apart = λ i j hi hj q.
        cases (eqb (f i) b)
        (λ t. let e : f i ≡ b = eqb-true _ _ t in
        cases (eqb (f j) b)
        (λ u. d.apart i j (omega arith) (omega arith) (e ∙ sym (eqb-true _ _ u)))
        (λ u. let g : f j ≡ b → ⊥ = eqb-false _ _ u in absurd (last_other j hj (sym (sym (turned_hit i e) ∙ q ∙ turned_miss j g)))))
        (λ t. let e : f i ≡ b → ⊥ = eqb-false _ _ t in
        cases (eqb (f j) b)
        (λ u. let g : f j ≡ b = eqb-true _ _ u in absurd (last_other i hi (sym (turned_miss i e) ∙ q ∙ turned_hit j g)))
        (λ u. let g : f j ≡ b → ⊥ = eqb-false _ _ u in d.apart i j (omega arith) (omega arith) (sym (turned_miss i e) ∙ q ∙ turned_miss j g)));
  }

-- then a is at most b
pub pigeons : (b a : ℕ) (f : ℕ → ℕ) → Into a b f → a ≤ b
pigeons b zero f d = omega arith
pigeons zero (suc a) f d = absurd (omega (arith, d.inside 0 (omega arith)))
pigeons (suc b) (suc a) f d = let r : a ≤ b = pigeons b a (turned f a b) (turned_into f a b d) in omega arith

-- where a is b, every number is come to
abbrev pub hits : (ℕ → ℕ) → ℕ → ℕ → Bool
hits f m k = eqb (f k) m

unfoldable longer : (ℕ → ℕ) → ℕ → ℕ → ℕ → ℕ
longer f a m k = pick (eqb k a) m (f k)

module _ (f : ℕ → ℕ) (a : ℕ) (d : Into a a f) (m : ℕ) (h : m < a) (no : some (hits f m) a ≡ false) where
  missed : (k : ℕ) → k < a → f k ≡ m → ⊥
  missed k l e = true_false (sym (is_true (some (hits f m) a) (some_at (hits f m) a k l (holds (eq-eqb (f k) m e)))) ∙ no)

  longer_last : longer f a m a ≡ m
  unfolding longer
  longer_last = rw (eq-eqb a a refl)

  longer_other : (k : ℕ) → (k ≡ a → ⊥) → longer f a m k ≡ f k
  unfolding longer
  longer_other k e = rw (ne_eqb k a e)

  longer_into : Into (suc a) a (longer f a m)
  longer_into = record {
    inside = λ k l.
        cases (eqb k a) (λ t. let e : k ≡ a = eqb-true _ _ t in rw (e, longer_last) h)
        (λ t. let e : k ≡ a → ⊥ = eqb-false _ _ t in rw (longer_other k e) (d.inside k (omega (arith, e))));
    apart = λ i j hi hj q.
        cases (eqb i a)
        (λ t. let e : i ≡ a = eqb-true _ _ t in
        cases (eqb j a) (λ u. e ∙ sym (eqb-true _ _ u))
        (λ u. let g : j ≡ a → ⊥ = eqb-false _ _ u in
        absurd (missed j (omega (arith, g)) (sym (longer_other j g) ∙ sym q ∙ ap (longer f a m) e ∙ longer_last))))
        (λ t. let e : i ≡ a → ⊥ = eqb-false _ _ t in
        cases (eqb j a)
        (λ u. let g : j ≡ a = eqb-true _ _ u in absurd (missed i (omega (arith, e)) (sym (longer_other i e) ∙ q ∙ ap (longer f a m) g ∙ longer_last)))
        (λ u. let g : j ≡ a → ⊥ = eqb-false _ _ u in d.apart i j (omega (arith, e)) (omega (arith, g)) (sym (longer_other i e) ∙ q ∙ longer_other j g)));
  }

  impossible : ⊥
  impossible = let r : suc a ≤ a = pigeons a (suc a) (longer f a m) longer_into in omega arith

pub onto : (f : ℕ → ℕ) (a : ℕ) → Into a a f → (m : ℕ) → m < a → Found (hits f m) a
onto f a d m h = cases (some (hits f m) a) (λ t. some_found (hits f m) a (holds t)) (λ n. absurd (impossible f a d m h n))
