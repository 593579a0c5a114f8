-- How many bytes a block shows. Assumes nothing.
use mathlib.Core.Path.{◌≡◌}
use mathlib.Core.Bool.{Bool, true, false}
use mathlib.Core.List.{List}
use Prim.Native.Nat.{ℕ}
use lib.Dec.{eqb}
use lib.ListN.{length, replicate, length-replicate}
use Rattle.laws.specs.Pick.{pick}
use Rattle.laws.specs.Made.{made}
use Rattle.laws.proofs.Rows.{length_made}
use Rattle.bcn_spec.specs.Bits.{number_of}
use Rattle.bc7_spec.specs.Fields.{reserved, mode_of}
use Rattle.bc7_spec.specs.Block.{byte_in, byte_count, colour_bytes}

pub length_bytes : (block : List ℕ) → length (colour_bytes block) ≡ byte_count
unfolding colour_bytes
length_bytes block = go (eqb (mode_of block) reserved)
  where
    go : (none : Bool) → length (pick none (replicate byte_count 0) (made (byte_in (mode_of block) (number_of block)) byte_count)) ≡ byte_count
    go true = length-replicate {A = ℕ} byte_count 0
    go false = length_made (byte_in (mode_of block) (number_of block)) byte_count
