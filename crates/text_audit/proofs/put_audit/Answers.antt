use mathlib.Core.Path.{refl, sym, ◌∙◌}
use native.Mathlib.Omega.{arith}
use Rattle.store_spec.proofs.Listing.{whole, all_marks}
use Rattle.text.proofs.Texts.{said, written_length}
use Rattle.text_audit.specs.Audit.{columns_line}
use Rattle.text_audit.proofs.Twins as twins
use borrow.Author.Rules.{rules}
use Rattle.text_audit.proofs.put_audit.Goals as goal

pub returns-then-list-ne-DONE : goal.returns-then-list-ne-DONE
returns-then-list-ne-DONE c = record { upper_bound = search rules; written = said c.put_refusal.ensures.written (twins.refused_text c.args.store.now _ (twins.number_is refl c.twin_list-list.ensures) c.if-list-ne-DONE.true) }

pub put_twins-requires : goal.put_twins-requires
put_twins-requires c = let z = c.if-list-ne-DONE.false in
    let d = c.twin_list-list.ensures in
    let w = whole d z in
    let h = c.put-end.ensures in
    let n = h.written.next_is in
    let l = written_length h.written in record { store_in_bounds = omega arith; store_in_bounds_2 = omega arith; marks = all_marks d z }

pub returns : goal.returns
unfolding columns_line
returns c =
    let z = c.if-list-ne-DONE.false in
    let d = c.twin_list-list.ensures in
    let w = whole d z in
    let h = c.put-end.ensures.written in
    let n = h.next_is in
    let l = written_length h in
    record { upper_bound = search rules; written = twins.done_text c.args.store.now (sym (twins.number_is refl d) ∙ z) h c.put_twins.ensures.written }
