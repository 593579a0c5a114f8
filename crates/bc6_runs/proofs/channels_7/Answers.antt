-- `bc6_runs::channels_7` meets its contract: its tables are, by computing, the runs of the row. Assumes nothing.
use lib.Dec.{lit≤}
use Rattle.bc6h_spec.specs.Layout.{rows, row7}
use Rattle.bc6_runs.proofs.Stored.{runs_read}
use Rattle.bc6_runs.proofs.channels_7.Goals as goal

pub returns : goal.returns
unfolding rows row7
returns c = let e = c.by_tables.ensures in runs_read 7 (lit≤ tt) (lit≤ tt) e.red e.green e.blue
