-- `exr::put_half` meets its contract. Assumes nothing.
use mathlib.Core.Path.{◌∙◌}
use Prim.Native.Nat.{◌+◌, ◌-◌}
use native.Mathlib.Omega.{arith}
use Rattle.laws.specs.Bit.{low_bytes}
use Rattle.pfm_floats.proofs.Stores.{part_stored}
use Rattle.exr_header.proofs.Numbers.{low_first_all}
use Rattle.exr.proofs.put_half.Goals as goal

pub returns : goal.returns
unfolding low_bytes
returns c =
    part_stored c.args.out.now _ (low_bytes 2 c.args.half) c.args.at (c.args.at + 2 - c.args.at)
    (c.copy_from_slice.ensures.after ∙ c.to_le_bytes.ensures ∙ low_first_all 2 c.args.half) (omega arith) c.requires
