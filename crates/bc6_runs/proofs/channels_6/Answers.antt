-- `bc6_runs::channels_6` meets its contract: its tables are, by computing, the runs of the row. Assumes nothing.
use lib.Dec.{lit≤}
use Rattle.bc6h_spec.specs.Layout.{rows, row6}
use Rattle.bc6_runs.proofs.Stored.{runs_read}
use Rattle.bc6_runs.proofs.channels_6.Goals as goal

pub returns : goal.returns
unfolding rows row6
returns c = let e = c.by_tables.ensures in runs_read 6 (lit≤ tt) (lit≤ tt) e.red e.green e.blue
