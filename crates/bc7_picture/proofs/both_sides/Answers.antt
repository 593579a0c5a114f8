-- `bc7_picture::both_sides` meets its contract. Assumes nothing.
use Rattle.bc7_picture.proofs.Sides.{sides}
use Rattle.bc7_picture.proofs.both_sides.Goals as goal

pub returns : goal.returns
returns c = sides _ _ c.requires.0 c.requires.1
