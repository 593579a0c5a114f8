-- `pfm_floats::put_word` meets its contract. Assumes nothing.
use mathlib.Core.Path.{◌∙◌}
use Prim.Native.Nat.{◌+◌, ◌-◌}
use native.Mathlib.Omega.{arith}
use Rattle.pfm_floats.specs.Bytes.{word_bytes}
use Rattle.pfm_floats.proofs.Stores.{part_stored}
use Rattle.pfm_floats.proofs.put_word.Goals as goal

pub returns : goal.returns
returns c =
    part_stored c.args.out.now _ (word_bytes c.args.word) c.args.at (c.args.at + 4 - c.args.at)
    (c.copy_from_slice.ensures.after ∙ c.to_le_bytes.ensures) (omega arith) c.requires
