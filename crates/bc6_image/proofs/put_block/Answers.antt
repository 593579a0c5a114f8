-- `bc6_image::put_block` meets its contract: a turn stores the next row. Assumes nothing.
use borrow.Author.Rules.{rules}
use mathlib.Core.Path.{refl}
use Rattle.bc6_image.proofs.Places.{block_start, block_step}
use Rattle.bc6_image.proofs.put_block.Goals as goal

pub loop-row-init : goal.loop-row-init
loop-row-init c = (search rules, block_start _ _ _ _ _, refl)

pub loop-row-preserved : goal.loop-row-preserved
loop-row-preserved c =
    let l = c.loop-row in
    let s = c.args in
    (search rules, block_step s.alpha s.pitch s.values.now s.at s.out.now l.row l.invariant.1 c.put_row.ensures, search rules)
