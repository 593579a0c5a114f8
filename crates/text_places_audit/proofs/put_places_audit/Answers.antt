use native.Mathlib.Omega.{arith}
use Rattle.text.proofs.Texts.{said, written_length}
use Rattle.text_places_audit.specs.Audit.{columns_line}
use Rattle.text_places_audit.proofs.Lines as lines
use borrow.Author.Rules.{rules}
use Rattle.text_places_audit.proofs.put_places_audit.Goals as goal

pub returns-then-refusal-ne-DONE : goal.returns-then-refusal-ne-DONE
returns-then-refusal-ne-DONE c = record { upper_bound = search rules; written = said c.put_refusal.ensures.written (lines.refused_text c.args.store.now _ c.refusal_in-refusal.ensures c.if-refusal-ne-DONE.true) }

pub put_copies-requires : goal.put_copies-requires
put_copies-requires c =
    let few = lines.few c.args.store.now c.refusal_in-refusal.ensures c.if-refusal-ne-DONE.false in
    let h = c.put-end.ensures.written in
    let n = h.next_is in
    let l = written_length h in
    omega arith

pub returns : goal.returns
unfolding columns_line
returns c =
    let few = lines.few c.args.store.now c.refusal_in-refusal.ensures c.if-refusal-ne-DONE.false in
    let h = c.put-end.ensures.written in
    let n = h.next_is in
    let l = written_length h in
    record { upper_bound = search rules; written = lines.done_text c.args.store.now c.refusal_in-refusal.ensures c.if-refusal-ne-DONE.false h c.put_copies.ensures.written }
