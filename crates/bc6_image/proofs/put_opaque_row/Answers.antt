-- `bc6_image::put_opaque_row` meets its contract: a turn stores the next pixel. Assumes nothing.
use borrow.Author.Rules.{rules}
use mathlib.Core.Path.{refl}
use Rattle.bc6_image.proofs.Places.{opaque_start, opaque_step}
use Rattle.bc6_image.proofs.put_opaque_row.Goals as goal

pub loop-x-init : goal.loop-x-init
loop-x-init c = (search rules, opaque_start _ _ _ _, refl)

pub loop-x-preserved : goal.loop-x-preserved
loop-x-preserved c =
    let l = c.loop-x in
    let s = c.args in
    (search rules, opaque_step s.values.now s.row s.out.now s.at l.x l.invariant.1 c.put_opaque.ensures, search rules)
