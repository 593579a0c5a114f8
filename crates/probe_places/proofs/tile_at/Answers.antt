use borrow.Author.Rules.{rules}
use Rattle.probe_places.specs.Places.{tile_in}
use Rattle.probe_places.proofs.tile_at.Goals as goal

pub returns : goal.returns
unfolding tile_in
returns c = search rules
