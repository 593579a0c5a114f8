-- The weights of a mode run from 0 to 64 and are even. Assumes nothing.
use mathlib.Core.Bool.{Bool, true, false}
use Prim.Native.Nat.{ℕ}
use Rattle.laws.specs.Pick.{pick}
use Rattle.bcn_spec.specs.Weights.{weights8, weights16}
use Rattle.bcn_spec.proofs.Weights.{Weights, weights8_even, weights16_even}
use Rattle.bc6h_spec.specs.Layout.{two_regions}
use Rattle.bc6h_spec.specs.Picture.{weights}

pub weights_even : (m : ℕ) → Weights (pick (two_regions m) 7 15) (weights m)
weights_even m = go (two_regions m)
  where
    go : (b : Bool) → Weights (pick b 7 15) (pick b weights8 weights16)
    go true = weights8_even
    go false = weights16_even
