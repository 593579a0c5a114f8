use mathlib.Core.Path.{sym, ◌∙◌}
use native.Mathlib.Omega.{arith}
use Rattle.store_restore.proofs.Fitting.{restorable}
use Rattle.store_restore.proofs.Restoring as laws
use borrow.Author.Rules.{rules}
use Rattle.store_restore.proofs.restore_store.Goals as goal

pub returns-then-refusal-ne-DONE : goal.returns-then-refusal-ne-DONE
returns-then-refusal-ne-DONE c = laws.restored_refused _ _ _ _ c.restore_refusal-refusal.ensures c.if-refusal-ne-DONE.true c.refused.ensures

pub loop-n-init : goal.loop-n-init
loop-n-init c = (laws.back_none _ _ _, sym c.restore_refusal-refusal.ensures ∙ c.if-refusal-ne-DONE.false)

pub put_back-requires : goal.put_back-requires
put_back-requires c =
    let i = c.loop-n in
    let a = c.args in
    let r = restorable _ _ _ i.invariant.1 in
    let x = laws.is_next a.receipt.now i.used i.n (sym c.is_next.ensures ∙ c.if-is_next.true) in
    let s = i.invariant.0 in
    record { there = x.there; before = laws.before_next s r (search rules) x; room = omega arith }

pub loop-n-preserved-then-is_next : goal.loop-n-preserved-then-is_next
loop-n-preserved-then-is_next c =
    let i = c.loop-n in
    let a = c.args in
    let r = restorable _ _ _ i.invariant.1 in
    let x = laws.is_next a.receipt.now i.used i.n (sym c.is_next.ensures ∙ c.if-is_next.true) in
    (laws.back_told i.invariant.0 r (search rules) x c.put_back.ensures, i.invariant.1)

pub copy_record-requires : goal.copy_record-requires
copy_record-requires c =
    let i = c.loop-n in
    let a = c.args in
    let r = restorable _ _ _ i.invariant.1 in
    let s = i.invariant.0 in
    record { n_bound = laws.next_there s r (search rules) (sym c.is_next.ensures ∙ c.if-is_next.false); record_size_in_bounds = omega arith }

pub loop-n-preserved : goal.loop-n-preserved
loop-n-preserved c =
    let i = c.loop-n in
    let a = c.args in
    let r = restorable _ _ _ i.invariant.1 in
    (laws.back_next i.invariant.0 r (search rules) (sym c.is_next.ensures ∙ c.if-is_next.false) c.copy_record.ensures, i.invariant.1)

pub returns : goal.returns
returns c = let i = c.loop-n.invariant in laws.restored_done _ _ _ (search rules) i.1 i.0 (search rules)
