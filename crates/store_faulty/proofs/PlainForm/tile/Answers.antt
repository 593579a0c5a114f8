use Rattle.store_faulty.specs.Faulty.{form_of}
use Rattle.store_faulty.proofs.PlainForm.tile.Goals as goal

pub returns : goal.returns
unfolding form_of
returns c = c.tile_at.ensures
