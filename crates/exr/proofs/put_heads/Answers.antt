-- `exr::put_heads` meets its contract. Assumes nothing.
use Prim.Native.Nat.{◌+◌, ◌*◌}
use Rattle.exr.specs.File.{head_of}
use Rattle.exr.proofs.Bands.{four_stores}
use Rattle.exr.proofs.put_heads.Goals as goal

pub returns : goal.returns
returns c =
    let s = c.args in
    four_stores (8 + 24 * s.across) s.out.now _ _ _ _ (head_of (4 * s.across) s.y) (head_of (4 * s.across) (s.y + 1)) (head_of (4 * s.across) (s.y + 2)) (head_of (4 * s.across) (s.y + 3)) s.at c.put_head.ensures c.put_head-2.ensures c.put_head-3.ensures c.put_head-4.ensures
