use Rattle.store_faulty.specs.Faulty.{form_of}
use Rattle.store_faulty.proofs.PlacedForm.tile.Goals as goal

pub returns : goal.returns
unfolding form_of
returns c = c.tile_at.ensures

pub tile_at-requires : goal.tile_at-requires
unfolding form_of
tile_at-requires c = c.requires
