-- `bc6_image::put_plain_row` meets its contract: twelve values are copied. Assumes nothing.
use Rattle.bc6_image.proofs.Places.{plain_put}
use Rattle.bc6_image.proofs.put_plain_row.Goals as goal

pub returns : goal.returns
returns c = plain_put c.args.values.now c.args.row c.args.out.now c.args.at c.told-values c.requires.0 c.requires.1 c.copy_from_slice.ensures.after
