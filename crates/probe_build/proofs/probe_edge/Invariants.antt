use Rattle.std.proofs.Common.{◌≡◌, ◌-◌, ◌≤◌, length}
use Rattle.laws.specs.First.{first_below}
use Rattle.probe.specs.Probe.{edge_limit}
use Rattle.probe_build.specs.Edges.{is_edge}
use Rattle.probe_build.proofs.probe_edge.Given as goal

abbrev pub invariant-loop-k : goal.invariant-loop-k
invariant-loop-k l = (l.k ≤ edge_limit) × (first_below (is_edge (length l.store)) l.k ≡ l.k)
