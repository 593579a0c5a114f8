-- Laws of `first_below`: a search that passes by, finds or comes to the end, and what its number means. Assumes nothing.
use mathlib.Core.Path.{◌≡◌, refl, sym, ◌∙◌, ap, ap₂, subst}
use mathlib.Core.Bool.{Bool, true, false}
use mathlib.Core.Logic.{⊎_elim}
use Prim.Native.Nat.{ℕ, zero, suc, ◌+◌, ◌≤◌, ◌<◌}
use native.Mathlib.Nat.{not-suc-le-zero, le_of_suc-le-suc, eq-or-lt_of_le}
use native.Mathlib.Numerals.{add-one}
use native.Mathlib.Omega.{arith}
use lib.Dec.{ltb}
use borrow.Author.Tests.{lt-ltb, le-ltb, ltb-true}
use Rattle.laws.specs.Pick.{pick}
use Rattle.laws.specs.First.{first_below}
use Rattle.laws.proofs.Tests.{cases}

module _ (test : ℕ → Bool) where
  -- where the search stands at n, all before n were passed by
  pub first_none : first_below test 0 ≡ 0
  unfolding first_below
  first_none = refl

  pub first_more : (n : ℕ) → first_below test n ≡ n → test n ≡ false → first_below test (n + 1) ≡ n + 1
  unfolding first_below
  first_more n h f = rw (add-one n, le-ltb (first_below test n) n (omega arith), f)

  pub first_end : (n k : ℕ) → k ≤ n → n ≤ k → first_below test k ≡ k → first_below test n ≡ n
  first_end n k h l e = let same : k ≡ n = omega arith in rw same at e

  pub first_at : (n k : ℕ) → first_below test k ≡ k → test k ≡ true → k < n → first_below test n ≡ k
  unfolding first_below
  first_at zero k e t h = absurd (not-suc-le-zero h)
  first_at (suc n) k e t h =
      ⊎_elim
      (λ q. subst (λ (x : ℕ). pick (ltb (first_below test x) x) (first_below test x) (pick (test x) x (suc x)) ≡ k) q
      (rw (le-ltb (first_below test k) k (omega arith), t)))
      (λ l. let i : first_below test n ≡ k = first_at n k e t l in rw (lt-ltb (first_below test n) n (omega arith)) i)
      (eq-or-lt_of_le (le_of_suc-le-suc h))

  pub first_never : ((k : ℕ) → test k ≡ false) → (n : ℕ) → first_below test n ≡ n
  unfolding first_below
  first_never f zero = refl
  first_never f (suc n) = rw (le-ltb (first_below test n) n (let e = first_never f n in omega arith), f n)

  pub first_most : (n : ℕ) → first_below test n ≤ n
  unfolding first_below
  first_most zero = omega arith
  first_most (suc n) =
      cases (ltb (first_below test n) n) (λ l. let b : first_below test n < n = ltb-true _ _ l in rw l (omega arith))
      (λ l. cases (test n) (λ t. rw (l, t) (omega arith)) (λ f. rw (l, f) (omega arith)))

  pub first_passes : (n : ℕ) → first_below test n < n → test (first_below test n) ≡ true
  unfolding first_below
  first_passes zero h = absurd (not-suc-le-zero h)
  first_passes (suc n) h =
      cases (ltb (first_below test n) n) (λ l. rw l (first_passes n (ltb-true _ _ l)))
      (λ l. cases (test n) (λ t. rw (l, t) t) (λ f. absurd (omega (arith, rw (l, f) at h))))

  -- no number before the first passes
  pub first_least : (n k : ℕ) → k < n → test k ≡ true → first_below test n ≤ k
  unfolding first_below
  first_least zero k h t = absurd (not-suc-le-zero h)
  first_least (suc n) k h t =
      ⊎_elim
      (λ q. let p : test n ≡ true = ap test (sym q) ∙ t in
      cases (ltb (first_below test n) n) (λ l. let b : first_below test n < n = ltb-true _ _ l in rw l (omega arith)) (λ l. rw (l, p) (omega arith)))
      (λ l. let i : first_below test n ≤ k = first_least n k l t in rw (lt-ltb (first_below test n) n (omega arith)) i)
      (eq-or-lt_of_le (le_of_suc-le-suc h))

-- only the numbers below n count
pub first_same : (f g : ℕ → Bool) (n : ℕ) → ((k : ℕ) → k < n → f k ≡ g k) → first_below f n ≡ first_below g n
unfolding first_below
first_same f g zero e = refl
first_same f g (suc n) e =
    ap₂ (λ (k : ℕ) (t : Bool). pick (ltb k n) k (pick t n (suc n))) (first_same f g n (λ k h. e k (omega arith))) (e n (omega arith))
