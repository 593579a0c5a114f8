use mathlib.Core.Path.{sym, ◌∙◌}
use Rattle.text.proofs.Texts.{said}
use Rattle.store_faulty.proofs.Forms.{few_records}
use Rattle.text_check.proofs.Lines as lines
use borrow.Author.Rules.{rules}
use Rattle.text_check.proofs.put_checking.Goals as goal

pub returns-then-refusal-ne-DONE : goal.returns-then-refusal-ne-DONE
returns-then-refusal-ne-DONE g c = record { upper_bound = search rules; written = said c.put_refusal.ensures.written (lines.refused_text _ c.args.store.now _ c.refusal_in-refusal.ensures c.if-refusal-ne-DONE.true) }

pub put_faults-end-requires : goal.put_faults-end-requires
put_faults-end-requires g c =
    let a = c.args in
    let few = few_records g.F.Form.byte a.store.now (sym c.refusal_in-refusal.ensures ∙ c.if-refusal-ne-DONE.false) in
    search rules

pub put_counts-requires : goal.put_counts-requires
put_counts-requires g c =
    let a = c.args in
    let few = few_records g.F.Form.byte a.store.now (sym c.refusal_in-refusal.ensures ∙ c.if-refusal-ne-DONE.false) in
    search rules

pub returns : goal.returns
returns g c =
    let a = c.args in
    let whole = sym c.refusal_in-refusal.ensures ∙ c.if-refusal-ne-DONE.false in
    let few = few_records g.F.Form.byte a.store.now whole in
    record { upper_bound = search rules; written = lines.done_text _ a.store.now whole c.put_faults-end.ensures.written c.records_in.ensures c.faults_in-counts.ensures c.put_counts.ensures.written }
