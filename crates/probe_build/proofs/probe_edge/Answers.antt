use Rattle.std.proofs.Common.{◌-◌, rules}
use Rattle.laws.proofs.Firsts.{first_none}
use Rattle.probe_build.proofs.Edging.{count_is, edge_here, edge_next, edge_none}
use Rattle.probe_build.proofs.probe_edge.Goals as goal

pub loop-k-init : goal.loop-k-init
loop-k-init c = (search rules, first_none _)

pub returns-then-record_count-store : goal.returns-then-record_count-store
returns-then-record_count-store c = edge_here _ _ (count_is c.u32_to_usize.ensures c.record_count.ensures.0) c.loop-k.invariant.1 (search rules) c.if-record_count-store.true

pub loop-k-preserved : goal.loop-k-preserved
loop-k-preserved c = (search rules, edge_next _ _ (count_is c.u32_to_usize.ensures c.record_count.ensures.0) c.loop-k.invariant.1 c.if-record_count-store.false)

pub returns : goal.returns
returns c = edge_none _ _ c.loop-k.invariant.1 (search rules) (search rules)
