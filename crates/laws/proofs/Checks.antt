-- What the number of checks in their order says of them. Assumes nothing.
use mathlib.Core.Path.{◌≡◌, refl, subst}
use mathlib.Core.Bool.{Bool, true, false}
use mathlib.Core.List.{List, [], ◌∷◌}
use Prim.Native.Nat.{ℕ, zero, suc}
use native.Mathlib.Omega.{arith}
use lib.Dec.{T}
use Rattle.laws.specs.Checks.{first_met, NoneMet, Numbered}

-- where the number is 0, no test holds
pub none_met : (checks : List (Bool × ℕ)) → Numbered checks → first_met checks ≡ 0 → NoneMet checks
none_met [] numbered e = tt
none_met ((true, zero) ∷ rest) numbered e = absurd numbered
none_met ((true, suc number) ∷ rest) numbered e = absurd (omega (arith, e))
none_met ((false, zero) ∷ rest) numbered e = absurd numbered
none_met ((false, suc number) ∷ rest) numbered e = (refl, none_met rest numbered e)

-- where no test holds, the number is 0
pub no_number : (checks : List (Bool × ℕ)) → NoneMet checks → first_met checks ≡ 0
no_number [] none = refl
no_number ((true, number) ∷ rest) none = absurd (subst T none.0 tt)
no_number ((false, number) ∷ rest) none = no_number rest none.1
