-- A block shows 48 values, whatever it holds. Assumes nothing.
use mathlib.Core.Path.{◌≡◌, refl}
use mathlib.Core.Bool.{Bool}
use mathlib.Core.List.{List}
use Prim.Native.Nat.{ℕ}
use lib.Dec.{eqb}
use lib.ListN.{length, replicate}
use Rattle.laws.proofs.Tests.{picks}
use Rattle.laws.proofs.Rows.{length_made}
use Rattle.bc6h_spec.specs.Fields.{mode_of}
use Rattle.bc6h_spec.specs.Picture.{value_count, value, picture_as, is_signed, picture}
use Rattle.bc6h_spec.specs.Block.{fields_in, pixels_of}

pub length_pixels : (signed : Bool) (block : List ℕ) → length (pixels_of signed block) ≡ value_count
unfolding pixels_of picture picture_as
length_pixels signed block =
    picks (eqb (mode_of block) 0) (replicate value_count 0) (picture (fields_in signed block)) (λ (l : List ℕ). length l ≡ value_count)
    (λ _. refl) (λ _. length_made (value (is_signed (fields_in signed block).format) (fields_in signed block)) value_count)
