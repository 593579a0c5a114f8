use mathlib.Core.Path.{sym, ◌∙◌}
use Rattle.store_spec.proofs.Listing.{whole_when}
use Rattle.text.proofs.Texts.{said}
use Rattle.text_infinities.proofs.Findings as findings
use borrow.Author.Rules.{rules}
use Rattle.text_infinities.proofs.put_infinities.Goals as goal

pub returns-then-refusal-ne-DONE : goal.returns-then-refusal-ne-DONE
returns-then-refusal-ne-DONE c = record { upper_bound = search rules; written = said c.put_refusal.ensures.written (findings.refused_text c.args.store.now _ c.list_refusal-refusal.ensures c.if-refusal-ne-DONE.true) }

pub put_findings-requires : goal.put_findings-requires
put_findings-requires c = let w = whole_when c.list_refusal-refusal.ensures c.if-refusal-ne-DONE.false in search rules

pub returns : goal.returns
returns c =
    let e = c.list_refusal-refusal.ensures in
    let z = c.if-refusal-ne-DONE.false in
    let w = whole_when e z in
    record { upper_bound = search rules; written = said c.put_findings.ensures.written (findings.done_text c.args.store.now (sym e ∙ z)) }
