use Rattle.std.proofs.Common.{arith, rules}
use Rattle.probe_build.proofs.Builds.{no_edge, long_edge, bad_format_lem, bad_blocks, short, unrefused}
use Rattle.probe_build.proofs.build_refusal.Goals as goal

pub returns-then-edge-eq0 : goal.returns-then-edge-eq0
returns-then-edge-eq0 c = no_edge _ _ _ _ (search rules)

pub returns-then-edge-gt-EDGE : goal.returns-then-edge-gt-EDGE
returns-then-edge-gt-EDGE c = long_edge _ _ _ _ (search rules)

pub returns-then-format-gt1 : goal.returns-then-format-gt1
returns-then-format-gt1 c = bad_format_lem _ _ _ _ (search rules) (search rules) (search rules)

pub returns-then-size-count : goal.returns-then-size-count
returns-then-size-count c = bad_blocks _ _ _ _ (search rules) (search rules) (search rules) (λ e. omega arith)

pub returns-then-room-count : goal.returns-then-room-count
returns-then-room-count c = short _ _ _ _ (search rules) (search rules) (search rules) (search rules) (search rules)

pub returns : goal.returns
returns c = unrefused _ _ _ _ (search rules) (search rules) (search rules) (search rules) (search rules)
