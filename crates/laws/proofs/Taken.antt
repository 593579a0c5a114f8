-- The first elements of a list, one by one, and a part of a part. Assumes nothing.
use mathlib.Core.Path.{◌≡◌, refl, sym, ap, ◌∙◌}
use mathlib.Core.List.{List, [], ◌∷◌, ◌++◌}
use Prim.Native.Nat.{ℕ, zero, suc, ◌+◌, ◌≤◌}
use native.Mathlib.Omega.{arith}
use lib.ListN.{length, get_or, take, drop}
use lib.Seq.{take-suc, take-take, drop-drop}
use Rattle.laws.specs.Made.{made}

pub made_taken : (l : List ℕ) (n : ℕ) → n ≤ length l → made (λ k. get_or l k 0) n ≡ take n l
unfolding made
made_taken l zero h = refl
made_taken l (suc n) h = ap (λ (x : List ℕ). x ++ (get_or l n 0 ∷ [])) (made_taken l n (omega arith)) ∙ sym (take-suc l n 0 h)

pub part_of_part : (l : List ℕ) (a b m n : ℕ) → b + n ≤ m → take n (drop b (take m (drop a l))) ≡ take n (drop (a + b) l)
part_of_part l a b m n h = go (drop a l) b m n h ∙ ap (take n) (drop-drop b a l)
  where
    go : (l : List ℕ) (b m n : ℕ) → b + n ≤ m → take n (drop b (take m l)) ≡ take n (drop b l)
    go l zero m n h = take-take n m l (omega arith)
    go [] (suc b) zero n h = refl
    go [] (suc b) (suc m) n h = refl
    go (x ∷ l) (suc b) zero n h = absurd (omega arith)
    go (x ∷ l) (suc b) (suc m) n h = go l b m n (omega arith)
