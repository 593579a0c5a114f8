use Prim.Native.Nat.{◌-◌}
use Rattle.text.proofs.Lines as all
use Rattle.text_clean.proofs.Lines as lines
use borrow.Author.Rules.{rules}
use Rattle.text_clean.proofs.put_lines.Goals as goal

pub loop-n-init : goal.loop-n-init
loop-n-init c = (search rules, search rules, search rules, all.no_lines _ _ _)

pub loop-n-preserved-then-first-n : goal.loop-n-preserved-then-first-n
loop-n-preserved-then-first-n c =
    let l = c.loop-n in
    (search rules, search rules, search rules, lines.line_skipped c.args.store.now l.n _ c.first_of-first.ensures (search rules) l.invariant.3)

pub loop-n-preserved : goal.loop-n-preserved
loop-n-preserved c =
    let l = c.loop-n in
    (search rules, search rules, search rules, lines.line_more c.args.store.now l.n _ c.first_of-first.ensures (search rules) l.invariant.3 c.put_removed-end.ensures.written)

pub returns : goal.returns
returns c =
    let l = c.loop-n in
    record { upper_bound = search rules; written = all.lines_upto _ l.n _ (search rules) (search rules) l.invariant.3 }
