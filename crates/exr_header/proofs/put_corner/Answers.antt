-- `exr_header::put_corner` meets its contract. Assumes nothing.
use mathlib.Core.Path.{◌∙◌, ap}
use Prim.Native.Nat.{◌+◌, ◌-◌}
use lib.Seq.{sets}
use Rattle.exr_header.proofs.Numbers.{low_first_all, corner_put}
use Rattle.exr_header.proofs.put_corner.Goals as goal

pub returns : goal.returns
returns c =
    let s = c.args in
    corner_put s.width s.height s.out.now c.put.new.text _ s.at
    (c.put.ensures.written.exit_is ∙ ap (sets s.out.now s.at) (c.to_le_bytes.ensures ∙ low_first_all 4 (s.width - 1)))
    (c.put-2.ensures.written.exit_is ∙ ap (sets c.put.new.text (s.at + 4)) (c.to_le_bytes-2.ensures ∙ low_first_all 4 (s.height - 1)))
