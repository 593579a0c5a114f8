use Rattle.std.proofs.Common.{◌≡◌, ◌≤◌}
use Rattle.check_replay.specs.Entries.{agreeing}
use Rattle.check_replay.proofs.replay.Given as goal

abbrev pub invariant-loop-n : goal.invariant-loop-n
invariant-loop-n g l = (l.count ≤ l.n) × (l.count ≡ agreeing l.list l.n)
