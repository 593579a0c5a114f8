-- `exr_header::put_table` meets its contract. Assumes nothing.
use mathlib.Core.Path.{◌≡◌}
use Prim.Native.Nat.{◌-◌, ◌≤◌}
use lib.ListN.{length}
use lib.Seq.{sets}
use Rattle.laws.specs.Made.{made, join}
use Rattle.exr_header.specs.Header.{header_length, start_bytes}
use Rattle.exr_header.proofs.put_table.Given as goal

abbrev pub invariant-loop-y : goal.invariant-loop-y
invariant-loop-y l = (l.y ≤ l.height) × (l.out ≡ sets l.initial.out header_length (join (made (start_bytes l.width l.height) l.y))) × (length l.out ≡ length l.initial.out)

abbrev pub decreases-loop-y : goal.decreases-loop-y
decreases-loop-y l = l.height - l.y
