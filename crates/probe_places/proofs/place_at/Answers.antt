use Rattle.probe_places.proofs.Checks.{place_is}
use Rattle.probe_places.proofs.place_at.Goals as goal

pub returns : goal.returns
returns c = let a = c.args in place_is a.store.now a.n c.pair_at.ensures c.pair_at-2.ensures
