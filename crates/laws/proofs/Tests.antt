-- What a test that holds over a range or a list shows at each place. Assumes nothing.
use mathlib.Core.Path.{◌≡◌, refl, sym, subst}
use mathlib.Core.Bool.{Bool, true, false, ◌&&◌, ◌||◌}
use mathlib.Core.List.{List, [], ◌∷◌}
use Prim.Native.Nat.{ℕ, zero, suc, ◌+◌, ◌-◌, ◌<◌, ◌≤◌}
use native.Mathlib.Nat.{not-suc-le-zero, le_of_suc-le-suc}
use native.Mathlib.Omega.{arith}
use lib.Arith.{lt_of_le-ne}
use lib.Dec.{T, eqb, eqb→eq}
use borrow.Author.Tests.{eqb-true, eqb-false}
use Rattle.laws.specs.Pick.{pick, both, either, implies}
use Rattle.laws.specs.Every.{below, same}

-- what holds of both arms holds of the pick
pub picks {ℓ κ} : {X : Type ℓ} (t : Bool) (x y : X) (P : X → Type κ) → (t ≡ true → P x) → (t ≡ false → P y) → P (pick t x y)
picks true x y P f g = f refl
picks false x y P f g = g refl

-- a test by its two outcomes, each with its equation
pub cases {ℓ} : {C : Type ℓ} (t : Bool) → (t ≡ true → C) → (t ≡ false → C) → C
cases true f g = f refl
cases false f g = g refl

pub both_left : (a b : Bool) → T (both a b) → T a
both_left true b t = tt
both_left false b t = t

pub both_right : (a b : Bool) → T (both a b) → T b
both_right true b t = t
both_right false b t = absurd t

pub both_true : (a b : Bool) → both a b ≡ true → (a ≡ true) × (b ≡ true)
both_true true b e = (refl, e)
both_true false b e = absurd (subst T (sym e) tt)

-- the code's tests
pub and_both : (a b : Bool) → (a && b) ≡ both a b
and_both true b = refl
and_both false b = refl

pub or_either : (a b : Bool) → (a || b) ≡ either a b
or_either true b = refl
or_either false b = refl

-- the other test, where the first fails
pub either_right : (a b : Bool) → a ≡ false → T (either a b) → T b
either_right true b e t = absurd (subst T e tt)
either_right false b e t = t

pub implied : (a b : Bool) → a ≡ true → T (implies a b) → T b
implied true b e t = t
implied false b e t = absurd (subst T (sym e) tt)

below_case : (f : ℕ → Bool) (n k : ℕ) → (T (below f n) → k < n → T (f k)) → (b : Bool) → eqb k n ≡ b → T (below f (suc n)) → k < suc n → T (f k)
below_case f n k ih true e t h = subst (λ (x : ℕ). T (f x)) (sym (eqb-true k n e)) (both_left (f n) (below f n) t)
below_case f n k ih false e t h =
    ih (both_right (f n) (below f n) t) (lt_of_le-ne (le_of_suc-le-suc h) (eqb-false k n e))

pub below_at : (f : ℕ → Bool) (n k : ℕ) → T (below f n) → k < n → T (f k)
below_at f zero k t h = absurd (not-suc-le-zero h)
below_at f (suc n) k t h = below_case f n k (below_at f n k) (eqb k n) refl t h

-- the same of the numbers from 1 to n, as the modes are counted
pub upto_at : (f : ℕ → Bool) (n k : ℕ) → T (below (λ j. f (j + 1)) n) → 1 ≤ k → k ≤ n → T (f k)
upto_at f n k t low high =
    let back : k - 1 + 1 ≡ k = omega arith in
    subst (λ (x : ℕ). T (f x)) back (below_at (λ j. f (j + 1)) n (k - 1) t (omega arith))

pub same_eq : (xs ys : List ℕ) → T (same xs ys) → xs ≡ ys
same_eq [] [] t = refl
same_eq [] (y ∷ ys) t = absurd t
same_eq (x ∷ xs) [] t = absurd t
same_eq (x ∷ xs) (y ∷ ys) t =
    let e = eqb→eq x y (both_left (eqb x y) (same xs ys) t) in
    let r = same_eq xs ys (both_right (eqb x y) (same xs ys) t) in
    cc
