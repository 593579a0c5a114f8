use mathlib.Core.Path.{◌≡◌}
use Prim.Native.Nat.{◌≤◌, ◌-◌}
use lib.ListN.{length}
use Rattle.store_clean.specs.Links.{bucket_count}
use Rattle.store_clean.proofs.Linking.{Linking}
use Rattle.store_clean.proofs.link_records.Given as goal

abbrev pub invariant-loop-n : goal.invariant-loop-n
invariant-loop-n l = (l.n ≤ l.count) × (length l.links ≡ length l.initial.links) × (length l.heads ≡ bucket_count) × Linking l.store l.n l.heads l.links

abbrev pub decreases-loop-n : goal.decreases-loop-n
decreases-loop-n l = l.count - l.n
