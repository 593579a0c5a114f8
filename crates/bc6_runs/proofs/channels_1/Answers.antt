-- `bc6_runs::channels_1` meets its contract: its tables are, by computing, the runs of the row. Assumes nothing.
use lib.Dec.{lit≤}
use Rattle.bc6h_spec.specs.Layout.{rows, row1}
use Rattle.bc6_runs.proofs.Stored.{runs_read}
use Rattle.bc6_runs.proofs.channels_1.Goals as goal

pub returns : goal.returns
unfolding rows row1
returns c = let e = c.by_tables.ensures in runs_read 1 (lit≤ tt) (lit≤ tt) e.red e.green e.blue
