-- `pfm::put_block` meets its contract. Assumes nothing.
use Rattle.pfm.proofs.Bands.{block_stores}
use Rattle.pfm.proofs.put_block.Goals as goal

pub returns : goal.returns
returns c =
    let s = c.args in
    block_stores s.colours s.stride s.out.now _ _ _ _ s.at c.put_quarter.ensures c.put_quarter-2.ensures c.put_quarter-3.ensures c.put_quarter-4.ensures
