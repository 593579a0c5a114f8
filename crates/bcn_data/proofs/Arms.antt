-- A match over the partition whose arms have the numbers of the rows. Assumes nothing.
use mathlib.Core.Path.{◌≡◌, ◌∙◌, sym, ap}
use Prim.Native.Nat.{ℕ, suc, zero-le, ◌<◌}
use native.Mathlib.Omega.{arith}
use lib.Dec.{T, eqb, eqb→eq}
use Rattle.laws.proofs.Arms.{Past, past}
use Rattle.bcn_data.specs.Subsets.{RowIs}

-- the last arm, which has what no arm before it has
pub last : (row : ℕ → ℕ) (n p r : ℕ) → p < suc n → Past 0 p n → T (eqb (row n) r) → RowIs row p r
last row n p r h rest t = let low = past 0 p n zero-le rest in record { number = n; at = omega arith; is = t }

pub row_is : {row : ℕ → ℕ} {p r : ℕ} → RowIs row p r → r ≡ row p
row_is {row} {p} {r} k = sym (eqb→eq (row k.number) r k.is) ∙ ap row (sym k.at)
