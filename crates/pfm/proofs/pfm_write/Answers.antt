-- `pfm::pfm_write` meets its contract. Assumes nothing.
use native.Mathlib.Omega.{arith}
use lib.ListN.{length, length-take, length-drop}
use Rattle.pfm.proofs.Calls.{Room, room_for, told_done}
use Rattle.pfm.proofs.pfm_write.Goals as goal

pub put_header-at-requires : goal.put_header-at-requires
put_header-at-requires c =
    let fine : (let a = c.args in Room (length a.blocks.now) a.format a.width a.height (length a.out.now)) = room_for _ _ _ _ _ cc in
    let k = fine in (k.short_width, k.short_height, omega (arith, k.fits))

pub slice_bounds-put_bands-count : goal.slice_bounds-put_bands-count
slice_bounds-put_bands-count c =
    let fine : (let a = c.args in Room (length a.blocks.now) a.format a.width a.height (length a.out.now)) = room_for _ _ _ _ _ cc in
    let k = fine in omega (arith, k.fits, c.put_header-at.ensures.next_is)

pub slice_bounds-put_bands-start : goal.slice_bounds-put_bands-start
slice_bounds-put_bands-start c =
    let fine : (let a = c.args in Room (length a.blocks.now) a.format a.width a.height (length a.out.now)) = room_for _ _ _ _ _ cc in
    let k = fine in omega (arith, k.fits, c.put_header-at.ensures.next_is)

pub put_bands-requires : goal.put_bands-requires
put_bands-requires c =
    let fine : (let a = c.args in Room (length a.blocks.now) a.format a.width a.height (length a.out.now)) = room_for _ _ _ _ _ cc in
    let k = fine in
    let n = c.put_header-at.ensures.next_is in
    record { format_bound = (k.known, k.wide, k.high); down_in_bounds = (k.bytes, simp (length-take, length-drop) (omega (arith, k.fits))) }

pub returns : goal.returns
returns c = told_done _ _ _ _ _ c.write_refusal-answer.ensures (cc) _ _ c.put_header-at.ensures c.put_header-at.auto.out c.put_bands.ensures c.pfm_length.ensures
