-- `bc6_palette::picture_of` meets its contract: by the mode. Assumes nothing.
use Rattle.bc6h_spec.specs.Picture.{picture}
use Rattle.bc6_palette.proofs.picture_of.Goals as goal

pub returns-then-fields-le10 : goal.returns-then-fields-le10
unfolding picture
returns-then-fields-le10 c = c.decode_two.ensures

pub returns : goal.returns
unfolding picture
returns c = c.decode_one.ensures
