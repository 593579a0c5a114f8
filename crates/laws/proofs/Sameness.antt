-- Laws of `same`: it holds of two lists exactly where they are equal, which a loop shows element by element. Assumes nothing.
use mathlib.Core.Path.{◌≡◌, sym, ◌∙◌, ap}
use mathlib.Core.Bool.{Bool, true, false}
use mathlib.Core.List.{List}
use Prim.Native.Nat.{ℕ, ◌≤◌, ◌<◌}
use native.Mathlib.Omega.{arith}
use lib.ListN.{length, get_or}
use lib.Seq.{ext_get_or}
use Rattle.laws.specs.Every.{same}
use Rattle.laws.proofs.Tests.{same_eq}
use Rattle.laws.proofs.Search.{holds, is_true, is_false, same_self}

pub true_false : true ≡ false → ⊥
true_false e = let z : ◌≡◌ {A = ℕ} 0 1 = cc in omega arith

pub not_so : (b : Bool) → (b ≡ true → ⊥) → b ≡ false
not_so b n = is_false b (λ t. n (is_true b t))

pub same_so : (xs ys : List ℕ) → xs ≡ ys → same xs ys ≡ true
same_so xs ys e = rw e (is_true (same ys ys) (same_self ys))

pub same_means : (xs ys : List ℕ) → same xs ys ≡ true → xs ≡ ys
same_means xs ys e = same_eq xs ys (holds e)

-- a loop that came to the end, and one that found a difference
pub same_all : (xs ys : List ℕ) (n k : ℕ) → length xs ≡ n → length ys ≡ n → n ≤ k → ((i : ℕ) → i < k → get_or xs i 0 ≡ get_or ys i 0)
    → same xs ys ≡ true
same_all xs ys n k p q l h = same_so xs ys (ext_get_or 0 xs ys (p ∙ sym q) (λ i m. h i (omega arith)))

pub same_not : (xs ys : List ℕ) (k : ℕ) → (get_or xs k 0 ≡ get_or ys k 0 → ⊥) → same xs ys ≡ false
same_not xs ys k d = not_so (same xs ys) (λ e. d (ap (λ (l : List ℕ). get_or l k 0) (same_means xs ys e)))
