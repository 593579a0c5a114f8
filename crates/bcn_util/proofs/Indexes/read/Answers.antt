-- `Indexes::read` meets its contract: one fix-up pixel a turn. Assumes nothing.
use mathlib.Core.Path.{◌≡◌}
use mathlib.Core.List.{List}
use Prim.Native.Nat.{ℕ, ◌+◌, ◌-◌, ◌*◌, ◌<◌}
use native.Mathlib.Nat.{add_assoc}
use native.Mathlib.Numerals.{add-one}
use lib.ListN.{length, get_or, drop}
use lib.Seq.{drop-cons}
use Rattle.laws.specs.Packed.{opened}
use Rattle.bcn_util.specs.Indexed.{expanded}
use Rattle.bcn_util.proofs.Expand.{FewBits, opened_fits}
use Rattle.bcn_util.proofs.Indexes.read.Goals as goal

module _ (bits : ℕ) (fixups : List ℕ) (k n next : ℕ) (o : next ≡ opened (bits * get_or fixups k 0 + (bits - 1)) n) where
  expanded_next : (whole : ℕ) → k < length fixups → expanded bits (drop k fixups) n ≡ whole → expanded bits (drop (k + 1) fixups) next ≡ whole
  expanded_next whole h e = rw (add-one, o) (rw (drop-cons fixups k 0) at e)

  few_next : (t : ℕ) → FewBits (t + k) n → FewBits (t + (k + 1)) next
  few_next t f = rw (add_assoc t k 1) at (opened_fits _ _ f o)

pub loop-pixel-preserved : goal.loop-pixel-preserved
loop-pixel-preserved c =
    let i = c.loop-pixel.invariant in
    let o = c.decompress_single_index-uncompressed.ensures in
    record { same = expanded_next _ _ _ _ _ o _ c.loop-pixel-test.true i.same; few = few_next _ _ _ _ _ o _ i.few }
