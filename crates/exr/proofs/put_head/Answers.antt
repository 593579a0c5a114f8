-- `exr::put_head` meets its contract. Assumes nothing.
use mathlib.Core.Path.{refl, ◌∙◌, ap}
use Prim.Native.Nat.{◌+◌, ◌*◌}
use lib.ListN.{take}
use lib.Seq.{sets}
use Rattle.exr_header.proofs.Numbers.{low_first_all}
use Rattle.exr.proofs.Bands.{head_stores}
use Rattle.exr.proofs.put_head.Goals as goal

pub returns : goal.returns
returns c =
    let s = c.args in
    head_stores s.width s.y s.out.now c.put.new.text _ s.at refl
    (c.put.ensures.written.exit_is ∙ ap (sets s.out.now s.at) (ap (take 4) c.to_le_bytes.ensures ∙ low_first_all 4 s.y))
    (c.put-2.ensures.written.exit_is ∙ ap (sets c.put.new.text (s.at + 4)) (c.to_le_bytes-2.ensures ∙ low_first_all 4 (6 * s.width)))
