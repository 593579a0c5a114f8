-- `exr::put_quarter` meets its contract. Assumes nothing.
use Rattle.exr.proofs.Bands.{four_halves}
use Rattle.exr.proofs.put_quarter.Goals as goal

pub returns : goal.returns
returns c =
    let s = c.args in
    four_halves s.values.now s.channel s.row s.out.now _ _ _ _ s.at c.put_half.ensures c.put_half-2.ensures c.put_half-3.ensures c.put_half-4.ensures
