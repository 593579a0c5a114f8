-- Laws of `count_of`: a loop that counts, one element a turn, and lists one after the other. Assumes nothing.
use mathlib.Core.Path.{◌≡◌, refl, sym, ap, ◌∙◌}
use mathlib.Core.List.{List, [], ◌∷◌, ◌++◌}
use Prim.Native.Nat.{ℕ, zero, suc, ◌+◌, ◌≤◌, ◌<◌}
use native.Mathlib.Nat.{add-zero}
use native.Mathlib.Numerals.{add-one}
use native.Mathlib.Omega.{arith}
use borrow.Author.Tests.{ne_eqb}
use lib.Dec.{eqb}
use lib.ListN.{length, get_or, take}
use lib.Seq.{take-suc}
use Rattle.laws.specs.Pick.{pick}
use Rattle.laws.specs.Made.{made, count_of, join, total}
use Rattle.laws.proofs.Rows.{join_last}

pub count_append : (v : ℕ) (xs ys : List ℕ) → count_of v (xs ++ ys) ≡ count_of v xs + count_of v ys
unfolding count_of
count_append v [] ys = omega arith
count_append v (x ∷ xs) ys = omega (arith, count_append v xs ys)

pub count_last : (v : ℕ) (xs : List ℕ) (x : ℕ) → count_of v (xs ++ (x ∷ [])) ≡ count_of v xs + pick (eqb x v) 1 0
unfolding count_of
count_last v xs x = count_append v xs (x ∷ []) ∙ ap (λ (y : ℕ). count_of v xs + y) (add-zero _)

module _ (v : ℕ) (l : List ℕ) (i : ℕ) (h : i < length l) where
  step : count_of v (take (i + 1) l) ≡ count_of v (take i l) + pick (eqb (get_or l i 0) v) 1 0
  step = rw (add-one, take-suc l i 0) (count_last v (take i l) (get_or l i 0))

-- a list whose elements are 0, 1 or 2: the three counts together are its length
pub count_three : (f : ℕ → ℕ) → ((k : ℕ) → f k ≤ 2) → (n : ℕ) → count_of 0 (made f n) + count_of 1 (made f n) + count_of 2 (made f n) ≡ n
unfolding made count_of
count_three f h zero = refl
count_three f h (suc n) =
    rw (count_last 0 (made f n) (f n), count_last 1 (made f n) (f n), count_last 2 (made f n) (f n))
    (omega (arith, count_three f h n, kinds (f n) (h n)))
  where
    kinds : (m : ℕ) → m ≤ 2 → pick (eqb m 0) 1 0 + pick (eqb m 1) 1 0 + pick (eqb m 2) 1 0 ≡ 1
    kinds zero l = refl
    kinds (suc zero) l = refl
    kinds (suc (suc zero)) l = refl
    kinds (suc (suc (suc m))) l = absurd (omega arith)

-- what occurs nowhere is counted zero times
pub count_never : (v : ℕ) (f : ℕ → ℕ) → ((k : ℕ) → f k ≡ v → ⊥) → (n : ℕ) → count_of v (made f n) ≡ 0
unfolding made count_of
count_never v f h zero = refl
count_never v f h (suc n) = rw (count_last v (made f n) (f n), ne_eqb (f n) v (h n)) (omega (arith, count_never v f h n))

-- over lists one after the other, the counts add up
total_last : (xs : List ℕ) (x : ℕ) → total (xs ++ (x ∷ [])) ≡ total xs + x
unfolding total
total_last [] x = omega arith
total_last (y ∷ xs) x = omega (arith, total_last xs x)

pub count_join : (v : ℕ) (g : ℕ → List ℕ) (n : ℕ) → count_of v (join (made g n)) ≡ total (made (λ k. count_of v (g k)) n)
unfolding made count_of total
count_join v g zero = refl
count_join v g (suc n) =
    ap (count_of v) (join_last (made g n) (g n)) ∙ count_append v (join (made g n)) (g n)
    ∙ ap (λ (m : ℕ). m + count_of v (g n)) (count_join v g n)
    ∙ sym (total_last (made (λ k. count_of v (g k)) n) (count_of v (g n)))
