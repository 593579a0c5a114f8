use mathlib.Core.Path.{◌≡◌}
use mathlib.Core.Bool.{true}
use Prim.Native.Nat.{◌-◌, ◌%◌, ◌≤◌}
use lib.ListN.{length}
use Rattle.laws.specs.Every.{below}
use Rattle.store_receipt.specs.Receipt.{entry_size}
use Rattle.store_restore.specs.Restore.{least_at, entry_fits}
use Rattle.store_restore.proofs.receipt_fits.Given as goal

abbrev pub invariant-loop-e : goal.invariant-loop-e
invariant-loop-e l = (l.e ≤ l.entries) × (l.least ≡ least_at l.receipt l.e) × (below (entry_fits l.receipt l.total) l.e ≡ true) × (length l.receipt % entry_size ≡ 0)

abbrev pub decreases-loop-e : goal.decreases-loop-e
decreases-loop-e l = l.entries - l.e
