use Rattle.std.proofs.Common.{◌+◌, ◌-◌, ◌≤◌}
use Rattle.run_dds.proofs.count_rest.Given as goal

abbrev pub invariant-loop-count : goal.invariant-loop-count
invariant-loop-count g l = l.count ≤ 22435184

-- each turn reads a byte at least
abbrev pub decreases-loop-count : goal.decreases-loop-count
decreases-loop-count g l = 22369648 + 1 - l.count
