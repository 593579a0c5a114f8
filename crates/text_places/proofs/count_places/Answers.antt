use Prim.Native.Nat.{◌-◌}
use Rattle.text_places.proofs.Counts.{none_sorted, one_sorted, all_sorted}
use borrow.Author.Rules.{rules}
use Rattle.text_places.proofs.count_places.Goals as goal

pub loop-n-init : goal.loop-n-init
loop-n-init c = (search rules, none_sorted _)

pub loop-n-preserved : goal.loop-n-preserved
loop-n-preserved c = (search rules, one_sorted _ c.loop-n.invariant.1 c.is_placed.ensures (c.one_if-placed.ensures.upper_bound, c.one_if-placed.ensures.value) c.is_unplaced.ensures (c.one_if-unplaced.ensures.upper_bound, c.one_if-unplaced.ensures.value))

pub returns : goal.returns
returns c = all_sorted _ (search rules) (search rules) c.loop-n.invariant.1 c.faults_in-bad.ensures
