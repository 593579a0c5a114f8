-- `exr::exr_write` meets its contract. Assumes nothing.
use native.Mathlib.Omega.{arith}
use lib.ListN.{length, length-take, length-drop}
use Rattle.exr.proofs.Calls.{Room, room_for, told_done, front_end}
use Rattle.exr.proofs.exr_write.Goals as goal

pub put_front-at-requires : goal.put_front-at-requires
put_front-at-requires c =
    let fine : (let a = c.args in Room (length a.blocks.now) a.format a.width a.height (length a.out.now)) = room_for _ _ _ _ _ cc in
    let k = fine in (k.sized, omega (arith, k.fits))

pub slice_bounds-put_bands-count : goal.slice_bounds-put_bands-count
slice_bounds-put_bands-count c =
    let fine : (let a = c.args in Room (length a.blocks.now) a.format a.width a.height (length a.out.now)) = room_for _ _ _ _ _ cc in
    let k = fine in let a = c.args in omega (arith, k.fits, front_end a.width a.height c.put_front-at.ensures)

pub slice_bounds-put_bands-start : goal.slice_bounds-put_bands-start
slice_bounds-put_bands-start c =
    let fine : (let a = c.args in Room (length a.blocks.now) a.format a.width a.height (length a.out.now)) = room_for _ _ _ _ _ cc in
    let k = fine in let a = c.args in omega (arith, k.fits, front_end a.width a.height c.put_front-at.ensures)

pub put_bands-requires : goal.put_bands-requires
put_bands-requires c =
    let fine : (let a = c.args in Room (length a.blocks.now) a.format a.width a.height (length a.out.now)) = room_for _ _ _ _ _ cc in
    let k = fine in
    let a = c.args in
    let n = front_end a.width a.height c.put_front-at.ensures in
    record { format_bound = (k.known, k.wide, k.high); down_in_bounds = (k.bytes, simp (length-take, length-drop) (omega (arith, k.fits, n))) }

pub returns : goal.returns
returns c = told_done _ _ _ _ _ c.write_refusal-answer.ensures (cc) _ _ c.put_front-at.ensures c.put_front-at.auto.out c.put_bands.ensures c.exr_length.ensures
