-- `dds::dds_write` meets its contract. Assumes nothing.
use native.Mathlib.Omega.{arith}
use lib.ListN.{length}
use Rattle.dds.proofs.Writing.{WriteKnown, write_known, told_done}
use Rattle.dds.proofs.dds_write.Goals as goal

pub put_header-requires : goal.put_header-requires
put_header-requires c =
    let fine : (let a = c.args in WriteKnown (length a.blocks.now) a.format a.width a.height (length a.out.now)) = write_known _ _ _ _ _ cc in
    let k = fine in record { settled = k.settled; header_size_in_bounds = omega (arith, k.fits) }

pub put_blocks-requires : goal.put_blocks-requires
put_blocks-requires c =
    let fine : (let a = c.args in WriteKnown (length a.blocks.now) a.format a.width a.height (length a.out.now)) = write_known _ _ _ _ _ cc in
    let k = fine in omega (arith, k.fits, k.bytes)

pub returns : goal.returns
returns c =
    told_done _ _ _ _ _ c.write_refusal-answer.ensures (cc) _
    c.put_header.ensures c.put_blocks.ensures
