-- `exr::put_channel` meets its contract. Assumes nothing.
use Rattle.exr.specs.Bands.{quarter_of}
use Rattle.exr.proofs.Bands.{four_stores}
use Rattle.exr.proofs.put_channel.Goals as goal

pub returns : goal.returns
returns c =
    let s = c.args in
    four_stores s.stride s.out.now _ _ _ _ (quarter_of s.values.now s.channel 0) (quarter_of s.values.now s.channel 1) (quarter_of s.values.now s.channel 2) (quarter_of s.values.now s.channel 3) s.at c.put_quarter.ensures c.put_quarter-2.ensures c.put_quarter-3.ensures c.put_quarter-4.ensures
