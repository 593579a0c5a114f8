-- What the tests of Search find, and that they find whatever there is. Assumes nothing.
use mathlib.Core.Path.{◌≡◌, refl, sym, ap, ◌∙◌, subst}
use mathlib.Core.Logic.{◌⊎◌, inl, inr, ⊎_elim}
use mathlib.Core.Bool.{Bool, true, false, not}
use mathlib.Core.List.{List, [], ◌∷◌}
use Prim.Native.Nat.{ℕ, zero, suc, ◌+◌, ◌-◌, ◌<◌, ◌≤◌}
use native.Mathlib.Nat.{not-suc-le-zero, le_of_suc-le-suc, eq-or-lt_of_le}
use native.Mathlib.Decide.{dec_lt}
use native.Mathlib.Numerals.{add-one}
use native.Mathlib.Omega.{arith}
use lib.Dec.{T, eqb, eqb→eq, eqb_refl, T_not, not_T}
use lib.ListN.{length, get_or}
use borrow.Author.Tests.{eq-eqb}
use Rattle.laws.specs.Pick.{both, either}
use Rattle.laws.specs.Every.{every, same}
use Rattle.laws.specs.Search.{some, equals, repeated, distinct}
use Rattle.laws.proofs.Tests.{both_left, both_right}

-- ---- a test that holds, and a test that is true

pub holds : {b : Bool} → b ≡ true → T b
holds e = subst T (sym e) tt

pub is_true : (b : Bool) → T b → b ≡ true
is_true true t = refl
is_true false t = absurd t

pub is_false : (b : Bool) → (T b → ⊥) → b ≡ false
is_false true f = absurd (f tt)
is_false false f = refl

-- two tests that hold together are the same
pub same_test : (a b : Bool) → (T a → T b) → (T b → T a) → a ≡ b
same_test true b f g = sym (is_true b (f tt))
same_test false b f g = sym (is_false b g)

pub both_hold : (a b : Bool) → T a → T b → T (both a b)
both_hold true b s t = t
both_hold false b s t = absurd s

pub either_cases : (a b : Bool) → T (either a b) → T a ⊎ T b
either_cases true b t = inl tt
either_cases false b t = inr t

pub either_left : (a b : Bool) → T a → T (either a b)
either_left true b t = tt
either_left false b t = absurd t

pub either_other : (a b : Bool) → T b → T (either a b)
either_other true b t = tt
either_other false b t = t

-- ---- everywhere in a list, and somewhere below n

pub every_at {ℓ} : {A : Type ℓ} (f : A → Bool) (l : List A) (k : ℕ) (d : A) → T (every f l) → k < length l → T (f (get_or l k d))
every_at f [] k d t h = absurd (not-suc-le-zero h)
every_at f (x ∷ xs) zero d t h = both_left (f x) (every f xs) t
every_at f (x ∷ xs) (suc k) d t h = every_at f xs k d (both_right (f x) (every f xs) t) (le_of_suc-le-suc h)

pub every-all {ℓ} : {A : Type ℓ} (f : A → Bool) (l : List A) (d : A) → ((k : ℕ) → T (f (get_or l k d))) → T (every f l)
every-all f [] d h = tt
every-all f (x ∷ xs) d h = both_hold (f x) (every f xs) (h 0) (every-all f xs d (λ k. h (suc k)))

pub record Found (f : ℕ → Bool) (n : ℕ) : Type 0 where
  pub place : ℕ
  pub inside : place < n
  pub there : T (f place)

pub some_found : (f : ℕ → Bool) (n : ℕ) → T (some f n) → Found f n
unfolding some
some_found f zero t = absurd t
some_found f (suc n) t =
    ⊎_elim
    (λ s. record { place = n; inside = omega arith; there = s })
    (λ s. let r : Found f n = some_found f n s in record { place = r.place; inside = omega arith; there = r.there })
    (either_cases (f n) (some f n) t)

pub some_at : (f : ℕ → Bool) (n k : ℕ) → k < n → T (f k) → T (some f n)
unfolding some
some_at f zero k h t = absurd (not-suc-le-zero h)
some_at f (suc n) k h t =
    ⊎_elim
    (λ e. either_left (f n) (some f n) (subst (λ (x : ℕ). T (f x)) e t))
    (λ l. either_other (f n) (some f n) (some_at f n k l t))
    (eq-or-lt_of_le (le_of_suc-le-suc h))

-- ---- a loop that looks through the numbers below n, and is at k

pub some_none : (f : ℕ → Bool) → some f 0 ≡ false
unfolding some
some_none f = refl

pub some_more : (f : ℕ → Bool) (k : ℕ) → some f k ≡ false → f k ≡ false → some f (k + 1) ≡ false
unfolding some
some_more f k h e = rw (add-one k, e) h

pub some_here : (f : ℕ → Bool) (n k : ℕ) → f k ≡ true → k < n → true ≡ some f n
some_here f n k e h = sym (is_true (some f n) (some_at f n k h (holds e)))

pub some_upto : (f : ℕ → Bool) (n k : ℕ) → some f k ≡ false → k ≤ n → n ≤ k → false ≡ some f n
some_upto f n k e low high = let q : k ≡ n = omega arith in sym (rw q at e)

-- only the numbers below n count
pub some_same : (f g : ℕ → Bool) (n : ℕ) → ((k : ℕ) → k < n → f k ≡ g k) → some f n ≡ some g n
unfolding some
some_same f g zero h = refl
some_same f g (suc n) h = rw (h n (omega arith), some_same f g n (λ k l. h k (omega arith)))

-- ---- numbers that all differ, and lists that are the same

pub distinct_same : (f g : ℕ → ℕ) (n : ℕ) → ((k : ℕ) → k < n → f k ≡ g k) → distinct f n ≡ distinct g n
distinct_same f g n h =
    ap not
    (some_same (repeated f) (repeated g) n (λ i hi.
    some_same (equals f i) (equals g i) i (λ j hj. rw (h i hi, h j (omega arith)))))

pub distinct_apart : (f : ℕ → ℕ) (n : ℕ) → T (distinct f n) → (i j : ℕ) → i < n → j < n → f i ≡ f j → i ≡ j
distinct_apart f n t i j hi hj e = go (dec_lt i j) (dec_lt j i)
  where
    later : (a b : ℕ) → b < a → a < n → f a ≡ f b → ⊥
    later a b l h q =
        T_not (some (repeated f) n) t (some_at (repeated f) n a h (some_at (equals f a) a b l (holds (eq-eqb (f a) (f b) q))))

    go : Dec (i < j) → Dec (j < i) → i ≡ j
    go (yes l) m = absurd (later j i l hj (sym e))
    go (no l) (yes m) = absurd (later i j m hi e)
    go (no l) (no m) = omega arith

pub apart_distinct : (f : ℕ → ℕ) (n : ℕ) → ((i j : ℕ) → i < n → j < n → f i ≡ f j → i ≡ j) → T (distinct f n)
apart_distinct f n h =
    not_T (some (repeated f) n) (λ t.
    let a : Found (repeated f) n = some_found (repeated f) n t in
    let b : Found (equals f a.place) a.place = some_found (equals f a.place) a.place a.there in
    let e : a.place ≡ b.place = h a.place b.place a.inside (omega arith) (eqb→eq _ _ b.there) in
    omega arith)

-- read from the other end
pub distinct_turned : (f : ℕ → ℕ) (n : ℕ) → distinct (λ i. f (n - 1 - i)) n ≡ distinct f n
distinct_turned f n =
    same_test (distinct (λ i. f (n - 1 - i)) n) (distinct f n)
    (λ t. apart_distinct f n (λ i j hi hj e.
    let back : (k : ℕ) → k < n → n - 1 - (n - 1 - k) ≡ k = λ k h. omega arith in
    let q : n - 1 - i ≡ n - 1 - j =
    distinct_apart (λ k. f (n - 1 - k)) n t (n - 1 - i) (n - 1 - j) (omega arith) (omega arith) (ap f (back i hi) ∙ e ∙ ap f (sym (back j hj))) in
    omega arith))
    (λ t. apart_distinct (λ i. f (n - 1 - i)) n (λ i j hi hj e.
    let q : n - 1 - i ≡ n - 1 - j = distinct_apart f n t (n - 1 - i) (n - 1 - j) (omega arith) (omega arith) e in
    omega arith))

pub same_self : (l : List ℕ) → T (same l l)
same_self [] = tt
same_self (x ∷ xs) = both_hold (eqb x x) (same xs xs) (eqb_refl x) (same_self xs)
