-- `dds::fields_ours` meets its contract. Assumes nothing.
use Rattle.dds.specs.Dds.{fields_ours}
use Rattle.dds.proofs.fields_ours.Goals as goal

pub returns : goal.returns
unfolding fields_ours
returns c = rw (c.start_ours-start.ensures, c.pixels_ours-pixels.ensures, c.texture_ours-texture.ensures)
