use Prim.Native.Nat.{◌-◌}
use Rattle.store_records.specs.Store.{records_in}
use Rattle.text.proofs.Lines.{no_lines}
use Rattle.text_audit.proofs.Twins as twins
use borrow.Author.Rules.{rules}
use Rattle.text_audit.proofs.put_twins.Goals as goal

pub loop-n-init : goal.loop-n-init
loop-n-init c = (search rules, search rules, search rules, twins.no_tally c.args.store.now, no_lines _ _ _)

pub loop-n-preserved-then-marks-n-ne-TWIN : goal.loop-n-preserved-then-marks-n-ne-TWIN
loop-n-preserved-then-marks-n-ne-TWIN c =
    let l = c.loop-n in
    let store = c.args.store.now in
    let m = c.requires.marks.at l.n (search rules) in
    (search rules, search rules, search rules, twins.tally_skipped store l.n _ m c.if-marks-n-ne-TWIN.true l.invariant.3, twins.line_skipped store l.n _ m c.if-marks-n-ne-TWIN.true l.invariant.4)

pub overflow_add-copies : goal.overflow_add-copies
overflow_add-copies c = let few = c.loop-n.invariant.3.few in search rules

pub overflow_add-alike : goal.overflow_add-alike
overflow_add-alike c = let few = c.loop-n.invariant.3.few in search rules

pub overflow_add-covered : goal.overflow_add-covered
overflow_add-covered c = let few = c.loop-n.invariant.3.few in search rules

pub overflow_add-before : goal.overflow_add-before
overflow_add-before c = let few = c.loop-n.invariant.3.few in search rules

pub loop-n-preserved : goal.loop-n-preserved
loop-n-preserved c =
    let l = c.loop-n in
    let store = c.args.store.now in
    let m = c.requires.marks.at l.n (search rules) in
    let f = c.examine-finding.ensures in (
      search rules,
      search rules,
      search rules,
      twins.tally_more store l.n _ m c.if-marks-n-ne-TWIN.false f l.invariant.3 c.one_if-copies.ensures.value c.one_if-alike.ensures.value c.one_if-covered.ensures.value c.one_if-before.ensures.value,
      twins.line_more store l.n _ m c.if-marks-n-ne-TWIN.false f l.invariant.4 c.put_twin-end.ensures.written,
    )

pub returns : goal.returns
returns c =
    let l = c.loop-n in
    let store = c.args.store.now in
    record { upper_bound = search rules; written = twins.tallied store l.n (records_in store) (search rules) (search rules) l.invariant.3 c.count_faults-faults.ensures l.invariant.4 c.put_tally.ensures.written }
