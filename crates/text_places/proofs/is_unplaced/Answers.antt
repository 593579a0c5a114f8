use Rattle.probe_places.proofs.Readings.{refused}
use Rattle.text_places.proofs.Counts as counts
use Rattle.text_places.proofs.is_unplaced.Goals as goal

pub returns-in_default : goal.returns-in_default
returns-in_default c = counts.refused_not_unplaced c.args.store.now c.args.n (refused c.placed_record_at.ensures c.in_default.is)

pub returns : goal.returns
returns c = counts.read_unplaced c.args.store.now c.args.n c.placed_record_at.ensures c.in-Record.is
