-- `bc6_fields::fields_from` meets its contract: the parts, joined. Assumes nothing.
use borrow.Author.Rules.{rules}
use Prim.Native.Nat.{◌<◌}
use lib.Dec.{lit≤}
use Rattle.bcn_data.proofs.Fixups.{fixup_range}
use Rattle.bc6_fields.proofs.Whole.{few_ones, narrow, partition_fits, one_region, two_regions_lem}
use Rattle.bc6_fields.proofs.fields_from.Goals as goal

pub of-map-requires : goal.of-map-requires
of-map-requires c =
    let part : c.args.partition < 32 = let p = c.requires in partition_fits _ _ p.0.0 p.0.1 (p.2 c.if-mode-le10.true) in
    part

pub new_p2-indexes-requires : goal.new_p2-indexes-requires
new_p2-indexes-requires c =
    let part : c.args.partition < 32 = let p = c.requires in partition_fits _ _ p.0.0 p.0.1 (p.2 c.if-mode-le10.true) in
    let f = fixup_range _ part c.of-map.ensures in
    (search rules, search rules, f.0, f.1)

pub overflow_cast-result-then-mode-le10 : goal.overflow_cast-result-then-mode-le10
overflow_cast-result-then-mode-le10 c =
    let part : c.args.partition < 32 = let p = c.requires in partition_fits _ _ p.0.0 p.0.1 (p.2 c.if-mode-le10.true) in
    let h = part in search rules

pub overflow_cast-result-then-mode-le10-2 : goal.overflow_cast-result-then-mode-le10-2
overflow_cast-result-then-mode-le10-2 c = let h = few_ones _ c.count_ones.ensures in search rules

pub indices_of-requires : goal.indices_of-requires
indices_of-requires c = narrow c.new_p2-indexes.ensures (lit≤ tt)

pub returns-then-mode-le10 : goal.returns-then-mode-le10
returns-then-mode-le10 c =
    let p = c.requires in
    let two = c.if-mode-le10.true in
    two_regions_lem _ _ p.0.0 p.0.1 p.1 _ (p.2 two) c.of-map.ensures two c.skip-rest.ensures
    c.new_p2-indexes.ensures c.indices_of.ensures c.count_ones.ensures

pub indices_of-requires-2 : goal.indices_of-requires-2
indices_of-requires-2 c = narrow c.new_p1-indexes.ensures (lit≤ tt)

pub returns : goal.returns
returns c =
    let p = c.requires in
    one_region _ _ p.0.0 p.0.1 p.1 _ c.if-mode-le10.false
    c.skip-rest-2.ensures c.new_p1-indexes.ensures c.indices_of-2.ensures
