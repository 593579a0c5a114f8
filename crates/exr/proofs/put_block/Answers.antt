-- `exr::put_block` meets its contract. Assumes nothing.
use Rattle.exr.proofs.Bands.{block_stores}
use Rattle.exr.proofs.put_block.Goals as goal

pub returns : goal.returns
returns c =
    let s = c.args in
    block_stores s.values.now s.across s.column s.out.now _ _ _ c.put_channel.ensures c.put_channel-2.ensures c.put_channel-3.ensures
