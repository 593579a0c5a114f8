use Rattle.std.proofs.Common.{◌+◌, ◌-◌, ◌*◌, arith}
use Rattle.check_replay.proofs.Replayed.{counts_one, counts_none}
use Rattle.check_replay.proofs.replay_one.Goals as goal

pub returns-then-agrees : goal.returns-then-agrees
returns-then-agrees g c =
    let n = c.args.n in
    counts_one c.args.list.now n (n * 117 + 117 - n * 117) c.agrees.ensures (omega arith) c.if-agrees.true

pub returns : goal.returns
returns g c =
    let n = c.args.n in
    counts_none c.args.list.now n (n * 117 + 117 - n * 117) c.agrees.ensures (omega arith) c.if-agrees.false
