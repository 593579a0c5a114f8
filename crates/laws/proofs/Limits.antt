-- A list whose numbers are below a limit, through the stores of a loop. Assumes nothing.
use mathlib.Core.List.{List, [], ◌∷◌}
use Prim.Native.Nat.{ℕ, zero, suc, ◌<◌}
use lib.ListN.{get_or, set, replicate}
use Rattle.laws.specs.Ranges.{AllBelow}

module _ (limit : ℕ) (positive : 0 < limit) where
  zeros : (n k : ℕ) → get_or (replicate n 0) k 0 < limit
  zeros zero k = positive
  zeros (suc n) zero = positive
  zeros (suc n) (suc k) = zeros n k

  pub below_zeros : (n : ℕ) → AllBelow limit (replicate n 0)
  below_zeros n = record { small = zeros n }

stored : (limit : ℕ) (l : List ℕ) (i x : ℕ) → ((k : ℕ) → get_or l k 0 < limit) → x < limit → (k : ℕ) → get_or (set l i x) k 0 < limit
stored limit [] i x h hx k = h k
stored limit (y ∷ l) zero x h hx zero = hx
stored limit (y ∷ l) zero x h hx (suc k) = h (suc k)
stored limit (y ∷ l) (suc i) x h hx zero = h zero
stored limit (y ∷ l) (suc i) x h hx (suc k) = stored limit l i x (λ j. h (suc j)) hx k

pub below_store : {limit : ℕ} {l : List ℕ} (i x : ℕ) → AllBelow limit l → x < limit → AllBelow limit (set l i x)
below_store {limit} {l} i x h hx = record { small = stored limit l i x h.small hx }
