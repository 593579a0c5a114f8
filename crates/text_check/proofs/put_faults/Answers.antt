use Prim.Native.Nat.{◌-◌}
use Rattle.text.proofs.Lines as all
use Rattle.text_check.proofs.Lines as lines
use borrow.Author.Rules.{rules}
use Rattle.text_check.proofs.put_faults.Goals as goal

pub loop-n-init : goal.loop-n-init
loop-n-init g c = (search rules, search rules, search rules, all.no_lines _ _ _)

pub loop-n-preserved-then-cause-eq-DONE : goal.loop-n-preserved-then-cause-eq-DONE
loop-n-preserved-then-cause-eq-DONE g c = (search rules, search rules, search rules, lines.line_skipped _ c.args.store.now c.loop-n.n c.cause_in-cause.ensures c.if-cause-eq-DONE.true c.loop-n.invariant.3)

pub loop-n-preserved : goal.loop-n-preserved
loop-n-preserved g c = (search rules, search rules, search rules, lines.line_more _ c.args.store.now c.loop-n.n c.cause_in-cause.ensures c.if-cause-eq-DONE.false c.loop-n.invariant.3 c.put_fault-end.ensures.written)

pub returns : goal.returns
returns g c = record { upper_bound = search rules; written = all.lines_upto _ c.loop-n.n _ (search rules) (search rules) c.loop-n.invariant.3 }
