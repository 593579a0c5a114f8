-- The number of bytes that are joined of two lists. Assumes nothing.
use mathlib.Core.Path.{◌≡◌}
use mathlib.Core.List.{List, [], ◌∷◌, ◌++◌}
use Prim.Native.Nat.{ℕ, ◌+◌, ◌*◌, ◌^◌}
use native.Mathlib.Nat.{pow-suc}
use native.Mathlib.Omega.{arith}
use lib.ListN.{length}
use Rattle.bcn_spec.specs.Bits.{number_of}

pub number_joined : (xs ys : List ℕ) → number_of (xs ++ ys) ≡ number_of xs + 256 ^ length xs * number_of ys
number_joined [] ys = omega arith
number_joined (x ∷ xs) ys = rw (number_joined xs ys, pow-suc 256 (length xs)) (omega arith)
