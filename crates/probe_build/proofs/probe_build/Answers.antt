use Rattle.std.proofs.Common.{sym, ◌∙◌}
use Rattle.probe_build.proofs.Builds.{buildable, built_refused, built_done}
use Rattle.probe_build.proofs.probe_build.Goals as goal

pub returns-then-refusal-ne-DONE : goal.returns-then-refusal-ne-DONE
returns-then-refusal-ne-DONE c = built_refused _ _ _ _ _ c.u32_to_usize-side.ensures c.build_refusal-refusal.ensures c.if-refusal-ne-DONE.true c.refused.ensures

pub write_records-requires : goal.write_records-requires
write_records-requires c = let b = buildable _ _ _ _ (sym c.build_refusal-refusal.ensures ∙ c.if-refusal-ne-DONE.false) in (b.edge_first, b.edge_last, b.whole, b.enough)

pub record_count-requires : goal.record_count-requires
record_count-requires c = (buildable _ _ _ _ (sym c.build_refusal-refusal.ensures ∙ c.if-refusal-ne-DONE.false)).edge_last

pub returns : goal.returns
returns c = built_done _ _ _ _ _ c.u32_to_usize-side.ensures c.build_refusal-refusal.ensures c.if-refusal-ne-DONE.false c.done.ensures c.record_count.ensures.0 c.write_records.ensures
