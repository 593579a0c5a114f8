use mathlib.Core.Path.{refl}
use native.Mathlib.Omega.{arith}
use Rattle.store_spec.proofs.Listing.{whole_when}
use Rattle.text.proofs.Texts.{said, written_length}
use Rattle.text_clean.proofs.Lines as lines
use borrow.Author.Rules.{rules}
use Rattle.text_clean.proofs.put_text.Goals as goal

pub returns-then-cleaned-ne-DONE : goal.returns-then-cleaned-ne-DONE
returns-then-cleaned-ne-DONE c = record { upper_bound = search rules; written = said c.put_refusal.ensures.written (lines.refused_text c.args.store.now c.args.cleaned c.requires.cleaned_value c.if-cleaned-ne-DONE.true) }

pub put_lines-end-requires : goal.put_lines-end-requires
put_lines-end-requires c =
    let w = whole_when refl (lines.few c.args.store.now c.args.cleaned c.requires.cleaned_value c.if-cleaned-ne-DONE.false) in
    omega arith

pub put_counts-requires : goal.put_counts-requires
put_counts-requires c =
    let w = whole_when refl (lines.few c.args.store.now c.args.cleaned c.requires.cleaned_value c.if-cleaned-ne-DONE.false) in
    let h = c.put_lines-end.ensures in
    let l = written_length h.written in
    omega arith

pub returns : goal.returns
returns c =
    let w = whole_when refl (lines.few c.args.store.now c.args.cleaned c.requires.cleaned_value c.if-cleaned-ne-DONE.false) in
    let h = c.put_lines-end.ensures in
    let l = written_length h.written in
    record { upper_bound = search rules; written = lines.done_text c.args.store.now c.args.cleaned c.requires.cleaned_value c.if-cleaned-ne-DONE.false h.written c.put_counts.ensures.written }
