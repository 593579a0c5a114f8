-- An element of an array of signed numbers, as it is read. Assumes nothing.
use mathlib.Core.Path.{◌≡◌, refl}
use mathlib.Core.List.{List, [], ◌∷◌}
use Prim.Native.Nat.{ℕ, zero, suc, ◌<◌}
use lib.Dec.{lit<}
use lib.IntN.{ℤ, pos}
use lib.ListN.{get_or}
use lib.Signed.{mag}
use mir.Syntax.{w32}
use mir.Val.{Val, to_z, of_z}
use denote.Array.{each}
use denote.Shadow.{shadow}
use denote.Signed.{SInt}
use Rattle.laws.proofs.Num.{read}

-- what owning an array tells of its elements: each fits
element_small : (l : List ℤ) (us : List Val) (e : ℕ) → shadow (each ℤ (SInt w32).own_val l us) → mag (get_or l e (pos 0)) < 2147483648
element_small [] us e p = lit< tt
element_small (x ∷ l) [] e p = absurd p
element_small (x ∷ l) (u ∷ us) zero p = p.0.1
element_small (x ∷ l) (u ∷ us) (suc e) p = element_small l us e p.1

-- so that what is read is the element
pub element_is : (l : List ℤ) (us : List Val) (e : ℕ) → shadow (each ℤ (SInt w32).own_val l us) → to_z w32 (of_z w32 (get_or l e (pos 0))) ≡ get_or l e (pos 0)
element_is l us e p = read {z = get_or l e (pos 0)} {y = get_or l e (pos 0)} (element_small l us e p) refl
