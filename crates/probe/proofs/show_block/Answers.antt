use Prim.Native.Nat.{◌+◌, ◌-◌, ◌*◌}
use native.Mathlib.Omega.{arith}
use Rattle.probe.proofs.Asking.{block_shown}
use Rattle.probe.proofs.show_block.Goals as goal

pub returns : goal.returns
returns c = let s = c.requires in let n = c.args.n in block_shown _ n (n * 32 + 16 + 16 - (n * 32 + 16)) s.0 s.1 s.2 (omega arith) c.block_pixels.ensures
