use Prim.Native.Nat.{◌-◌}
use Rattle.text.proofs.Lines.{no_lines, line_more, lines_upto}
use borrow.Author.Rules.{rules}
use Rattle.text_list.proofs.put_records.Goals as goal

pub loop-n-init : goal.loop-n-init
loop-n-init c = (search rules, search rules, search rules, no_lines _ _ _)

pub put_record-end-requires : goal.put_record-end-requires
put_record-end-requires c = record { at_in_bounds = search rules; mark_value = c.requires.marks.at c.loop-n.n (search rules) }

pub loop-n-preserved : goal.loop-n-preserved
loop-n-preserved c =
    let l = c.loop-n in
    (search rules, search rules, search rules, line_more _ l.n l.invariant.3 c.put_record-end.ensures.written)

pub returns : goal.returns
returns c =
    let l = c.loop-n in
    record { upper_bound = search rules; written = lines_upto _ l.n _ (search rules) (search rules) l.invariant.3 }
