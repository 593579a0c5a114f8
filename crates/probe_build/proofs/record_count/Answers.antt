use Rattle.std.proofs.Common.{refl}
use Rattle.probe_build.specs.Building.{record_count}
use Rattle.probe_build.proofs.Numbers.{count_small}
use Rattle.probe_build.proofs.record_count.Goals as goal

pub returns : goal.returns
unfolding record_count
returns c = (refl, count_small c.args.edge c.requires)
