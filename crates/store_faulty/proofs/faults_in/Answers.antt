use Rattle.store_faulty.proofs.Forms.{none_counted, one_counted, all_counted}
use borrow.Author.Rules.{rules}
use Rattle.store_faulty.proofs.faults_in.Goals as goal

pub loop-n-init : goal.loop-n-init
loop-n-init g c = (search rules, none_counted _ _)

pub loop-n-preserved : goal.loop-n-preserved
loop-n-preserved g c = (search rules, one_counted _ _ c.loop-n.invariant.1 c.is_refused.ensures (c.one_if-refused.ensures.upper_bound, c.one_if-refused.ensures.value) c.is_damaged.ensures (c.one_if-damaged.ensures.upper_bound, c.one_if-damaged.ensures.value))

pub returns : goal.returns
returns g c = all_counted _ _ (search rules) (search rules) c.loop-n.invariant.1
