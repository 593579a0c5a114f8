-- `dds::put_blocks` meets its contract. Assumes nothing.
use mathlib.Core.Path.{◌≡◌}
use Prim.Native.Nat.{◌≤◌}
use lib.ListN.{length}
use lib.Seq.{paste}
use Rattle.dds.specs.Dds.{header_size}
use Rattle.dds.proofs.put_blocks.Given as goal

abbrev pub invariant-loop-i : goal.invariant-loop-i
invariant-loop-i l = (l.i ≤ length l.blocks) × (l.out ≡ paste l.initial.out header_size l.blocks l.i) × (length l.out ≡ length l.initial.out)
