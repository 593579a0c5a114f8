-- `Indexes::read` meets its contract: the pixels so far are opened, and those to come make the whole. Assumes nothing.
use mathlib.Core.Path.{◌≡◌}
use Prim.Native.Nat.{◌+◌, ◌-◌, ◌*◌}
use lib.ListN.{length, drop}
use Rattle.bcn_util.specs.Indexed.{expanded}
use Rattle.bcn_util.proofs.Expand.{FewBits}
use Rattle.bcn_util.proofs.Indexes.read.Given as goal

abbrev pub invariant-loop-pixel : goal.invariant-loop-pixel
invariant-loop-pixel l =
    record {
      same : expanded l.bits (drop l.pixel-index l.fixups) l.uncompressed ≡ expanded l.bits l.fixups l.initial.uncompressed;
      few : FewBits (16 * l.bits - length l.fixups + l.pixel-index) l.uncompressed;
    }
