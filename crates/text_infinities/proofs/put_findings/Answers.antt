use Rattle.store_records.specs.Store.{records_in}
use Rattle.text.proofs.Lines.{no_lines}
use Rattle.text_infinities.proofs.Findings as findings
use borrow.Author.Rules.{rules}
use Rattle.text_infinities.proofs.put_findings.Goals as goal

pub loop-n-init : goal.loop-n-init
loop-n-init c = (search rules, search rules, search rules, findings.no_counts c.args.store.now, no_lines _ _ _)

pub loop-n-preserved-then-finding-eq0 : goal.loop-n-preserved-then-finding-eq0
loop-n-preserved-then-finding-eq0 c =
    let l = c.loop-n in
    let store = c.args.store.now in
    let f = c.examine-finding.ensures.value in
    (search rules, search rules, search rules, findings.count_skipped store l.n f c.if-finding-eq0.true l.invariant.3, findings.line_skipped store l.n f c.if-finding-eq0.true l.invariant.4)

pub overflow_add-records : goal.overflow_add-records
overflow_add-records c = let few = c.loop-n.invariant.3.few in search rules

pub overflow_add-values : goal.overflow_add-values
overflow_add-values c = let few = c.loop-n.invariant.3.few in search rules

pub loop-n-preserved : goal.loop-n-preserved
loop-n-preserved c =
    let l = c.loop-n in
    let store = c.args.store.now in
    let f = c.examine-finding.ensures.value in (
      search rules,
      search rules,
      search rules,
      findings.count_more store l.n f c.if-finding-eq0.false l.invariant.3 c.examine-finding.ensures.infinite_bound,
      findings.line_more store l.n f c.if-finding-eq0.false l.invariant.4 c.put_finding-end.ensures.written,
    )

pub returns : goal.returns
returns c =
    let l = c.loop-n in
    record { upper_bound = search rules; written = findings.counted c.args.store.now l.n (records_in c.args.store.now) (search rules) (search rules) l.invariant.3 l.invariant.4 c.put_counts.ensures.written }
