use native.Mathlib.Omega.{arith}
use Rattle.store_spec.proofs.Listing.{whole, all_marks}
use Rattle.text.proofs.Texts.{said}
use Rattle.run_list.proofs.Whole as texts
use borrow.Author.Rules.{rules}
use Rattle.run_list.proofs.put_listing.Goals as goal

pub returns-then-list-ne-DONE : goal.returns-then-list-ne-DONE
returns-then-list-ne-DONE c = record { upper_bound = search rules; written = said c.put_refusal.ensures.written (texts.refused_text c.args.store.now c.args.strict _ c.list_records-list.ensures.answer_value c.if-list-ne-DONE.true) }

pub put_records-end-requires : goal.put_records-end-requires
put_records-end-requires c =
    let z = c.if-list-ne-DONE.false in
    let d = c.list_records-list.ensures.listed z in
    let w = whole d z in
    record { store_in_bounds = omega arith; store_in_bounds_2 = omega arith; marks = all_marks d z }

pub put_counts-requires : goal.put_counts-requires
put_counts-requires c =
    let z = c.if-list-ne-DONE.false in
    let w = whole (c.list_records-list.ensures.listed z) z in
    omega arith

pub returns : goal.returns
returns c =
    let z = c.if-list-ne-DONE.false in
    let d = c.list_records-list.ensures in
    let w = whole (d.listed z) z in
    record {
      upper_bound = search rules;
      written = texts.whole_text c.args.store.now c.args.strict d.answer_value z (d.listed z) c.put_records-end.ensures.written c.put_counts.ensures.written;
    }
