-- `bc6::two_picks` meets its contract. Assumes nothing.
use borrow.Author.Rules.{rules}
use native.Mathlib.Nat.{mod-lt}
use lib.Dec.{lit<}
use Rattle.bcn_data.proofs.Fixups.{fixup_range}
use Rattle.bc6.proofs.Link.{two_picked}
use Rattle.bc6.proofs.two_picks.Goals as goal

pub new_p2-indexes-requires : goal.new_p2-indexes-requires
new_p2-indexes-requires c =
    let f = fixup_range _ (rw c.read_partition.ensures (mod-lt _ (lit< tt))) c.of-map.ensures in
    (search rules, search rules, f.0, f.1)

pub returns : goal.returns
returns c = two_picked _ _ _ _ _ c.read_partition.ensures c.of-map.ensures c.skip.ensures c.new_p2-indexes.ensures
