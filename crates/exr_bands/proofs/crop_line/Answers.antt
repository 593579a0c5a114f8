-- `exr_bands::crop_line` meets its contract. Assumes nothing.
use borrow.Author.Rules.{rules}
use Rattle.exr_bands.proofs.Lines.{line_stores}
use Rattle.exr_bands.proofs.crop_line.Goals as goal

pub returns : goal.returns
returns c =
    let s = c.args in
    line_stores s.lines.now s.at s.across s.width s.y (search rules) (search rules) s.out.now _ _ _ _ s.to (search rules) c.put_head.ensures c.copy_part.ensures c.copy_part-2.ensures c.copy_part-3.ensures
