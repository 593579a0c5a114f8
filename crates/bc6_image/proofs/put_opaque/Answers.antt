-- `bc6_image::put_opaque` meets its contract. Assumes nothing.
use Rattle.bc6_image.proofs.Places.{pixel_opaque}
use Rattle.bc6_image.proofs.put_opaque.Goals as goal

pub returns : goal.returns
returns c = let s = c.args in pixel_opaque s.values.now s.out.now s.k s.at
