-- `bc6_image::face_values` meets its contract: a law for each return. Assumes nothing.
use mathlib.Core.Path.{refl}
use Rattle.bc6_image.proofs.Calls.{known_done, painted_done}
use Rattle.bc6_image.proofs.face_values.Goals as goal

pub paint_face-requires : goal.paint_face-requires
paint_face-requires c =
    let s = c.args in
    let k = known_done s.alpha s.blocks.now s.width s.height s.format s.out.now s.pitch c.in_ok-check_face.ensures refl in
    (k.format_known, k.fits)

pub returns : goal.returns
returns c = painted_done _ _ _ _ _ _ _ c.in_ok-check_face.ensures refl c.paint_face.ensures
