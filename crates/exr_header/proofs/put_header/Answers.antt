-- `exr_header::put_header` meets its contract. Assumes nothing.
use Rattle.exr_header.proofs.Numbers.{header_put}
use Rattle.exr_header.proofs.put_header.Goals as goal

pub returns : goal.returns
returns c =
    let s = c.args in
    header_put s.width s.height s.out.now _ _ _ _ _ _ c.put_start.ensures c.put_data.ensures c.put_corner.ensures c.put_display.ensures c.put_corner-2.ensures c.put_screen.ensures
