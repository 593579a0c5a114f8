-- Laws of lists that are stored from a place on: one behind the other, in a part of what is stored to, and what a place then has. Assumes nothing.
use mathlib.Core.Path.{◌≡◌, ◌∙◌, refl, ap}
use mathlib.Core.List.{List, [], ◌∷◌, ◌++◌}
use Prim.Native.Nat.{ℕ, zero, suc, ◌+◌, ◌≤◌, ◌<◌}
use native.Mathlib.Nat.{add-zero}
use native.Mathlib.Omega.{arith}
use lib.ListN.{length, get_or, set, length-set}
use lib.Seq.{sets, set-append_left, get_or-set_same, get_or-set_other}

-- two lists, one behind the other
pub sets_append : (xs ys l : List ℕ) (i j : ℕ) → i + length xs ≡ j → sets (sets l i xs) j ys ≡ sets l i (xs ++ ys)
sets_append [] ys l i j e = let same : i ≡ j = omega arith in rw same
sets_append (x ∷ xs) ys l i j e = sets_append xs ys (set l i x) (suc i) j (omega arith)

-- ---- in the first and in the second of two lists

pub sets_left : (xs a b : List ℕ) (i : ℕ) → i + length xs ≤ length a → sets (a ++ b) i xs ≡ sets a i xs ++ b
sets_left [] a b i h = refl
sets_left (x ∷ xs) a b i h =
    let lt : i < length a = omega arith in
    let len : length (set a i x) ≡ length a = length-set a i x in
    ap (λ (t : List ℕ). sets t (suc i) xs) (set-append_left a b i x lt) ∙ sets_left xs (set a i x) b (suc i) (omega arith)

set_right : (a b : List ℕ) (i j : ℕ) (x : ℕ) → j ≡ length a + i → set (a ++ b) j x ≡ a ++ set b i x
set_right [] b i j x e = let same : j ≡ i = omega arith in rw same
set_right (y ∷ a) b i zero x e = absurd (omega arith)
set_right (y ∷ a) b i (suc j) x e = ap (λ (t : List ℕ). y ∷ t) (set_right a b i j x (omega arith))

pub sets_right : (xs a b : List ℕ) (i j : ℕ) → j ≡ length a + i → sets (a ++ b) j xs ≡ a ++ sets b i xs
sets_right [] a b i j e = refl
sets_right (x ∷ xs) a b i j e =
    ap (λ (t : List ℕ). sets t (suc j) xs) (set_right a b i j x e) ∙ sets_right xs a (set b i x) (suc i) (suc j) (omega arith)

-- ---- what a place then has

pub sets_miss : (xs l : List ℕ) (at i : ℕ) → ((k : ℕ) → k < length xs → i ≡ at + k → ⊥) → get_or (sets l at xs) i 0 ≡ get_or l i 0
sets_miss [] l at i off = refl
sets_miss (x ∷ xs) l at i off =
    sets_miss xs (set l at x) (suc at) i (λ k h e. off (suc k) (omega arith) (omega arith))
    ∙ get_or-set_other l at i x 0 (λ e. off 0 (omega arith) (omega arith))

pub sets_hit : (xs l : List ℕ) (at k : ℕ) → k < length xs → at + k < length l → get_or (sets l at xs) (at + k) 0 ≡ get_or xs k 0
sets_hit [] l at k h r = absurd (omega arith)
sets_hit (x ∷ xs) l at zero h r =
    sets_miss xs (set l at x) (suc at) (at + 0) (λ k b e. omega arith)
    ∙ ap (λ (j : ℕ). get_or (set l at x) j 0) (add-zero at) ∙ get_or-set_same l at x 0 (omega arith)
sets_hit (x ∷ xs) l at (suc k) h r =
    let next : at + suc k ≡ suc at + k = omega arith in
    let long : length (set l at x) ≡ length l = length-set l at x in
    ap (λ (j : ℕ). get_or (sets (set l at x) (suc at) xs) j 0) next ∙ sets_hit xs (set l at x) (suc at) k (omega arith) (omega arith)
