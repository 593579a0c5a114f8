use mathlib.Core.Path.{sym, ◌∙◌}
use native.Mathlib.Omega.{arith}
use Rattle.store_receipt.proofs.Telling.{roomy_by, roomy_when}
use Rattle.store_receipt.proofs.Telling as laws
use borrow.Author.Rules.{rules}
use Rattle.store_receipt.proofs.clean_with_receipt.Goals as goal

pub returns-then-refusal-ne-DONE : goal.returns-then-refusal-ne-DONE
returns-then-refusal-ne-DONE c = laws.receipt_refused _ _ _ _ c.receipt_refusal-refusal.ensures c.if-refusal-ne-DONE.true c.refused.ensures

pub link_records-requires : goal.link_records-requires
link_records-requires c = let w = roomy_when c.receipt_refusal-refusal.ensures c.if-refusal-ne-DONE.false in record { store_bound = search rules; store_in_bounds = search rules }

pub loop-n-init : goal.loop-n-init
loop-n-init c = (laws.telling_none _ _ _, sym c.receipt_refusal-refusal.ensures ∙ c.if-refusal-ne-DONE.false, c.link_records.ensures)

pub first_along-first-requires : goal.first_along-first-requires
first_along-first-requires c =
    let i = c.loop-n.invariant in
    let w = roomy_by _ _ _ i.1 in
    let s = i.0 in
    record { inside = search rules; links_room = search rules; firsts_room = search rules; linked = i.2; known = s.known }

pub overflow_cast-firsts : goal.overflow_cast-firsts
overflow_cast-firsts c = let w = roomy_by _ _ _ c.loop-n.invariant.1 in search rules

pub bounds-firsts-n : goal.bounds-firsts-n
bounds-firsts-n c = let w = roomy_by _ _ _ c.loop-n.invariant.1 in search rules

pub write_entry-requires : goal.write_entry-requires
write_entry-requires c =
    let i = c.loop-n.invariant in
    let w = roomy_by _ _ _ i.1 in
    let s = i.0 in
    record { inside = search rules; few = omega arith; before = search rules; is_first = c.first_along-first.ensures.0; room = omega arith }

pub loop-n-preserved-then-first-n : goal.loop-n-preserved-then-first-n
loop-n-preserved-then-first-n c =
    let i = c.loop-n.invariant in
    let w = roomy_by _ _ _ i.1 in
    (laws.telling_gone i.0 (search rules) (omega arith) c.first_along-first.ensures.0 w.entries_fit (search rules) c.write_entry.ensures, i.1, i.2)

pub copy_record-requires : goal.copy_record-requires
copy_record-requires c =
    let i = c.loop-n.invariant in
    let w = roomy_by _ _ _ i.1 in
    let s = i.0.cleaned in
    record { n_bound = search rules; record_size_in_bounds = omega arith }

pub loop-n-preserved : goal.loop-n-preserved
loop-n-preserved c =
    let i = c.loop-n.invariant in
    let w = roomy_by _ _ _ i.1 in
    (laws.telling_more i.0 (search rules) (omega arith) c.first_along-first.ensures.0 w.records_fit (search rules) c.copy_record.ensures, i.1, i.2)

pub returns : goal.returns
returns c = let i = c.loop-n.invariant in laws.receipt_done _ _ _ c.record_count-count.ensures i.1 i.0 (search rules)
