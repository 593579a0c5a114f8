-- `bc6_valid::is_valid` meets its contract: one law for each check. Assumes nothing.
use borrow.Author.Rules.{rules}
use Rattle.bc6_valid.proofs.Verdict as laws
use Rattle.bc6_valid.proofs.is_valid.Goals as goal

pub returns-then-fields-gt1 : goal.returns-then-fields-gt1
returns-then-fields-gt1 c = laws.other_format _ (search rules)

pub returns-then-fields-lt1 : goal.returns-then-fields-lt1
returns-then-fields-lt1 c = laws.mode_below _ (search rules)

pub returns-then-fields-gt14 : goal.returns-then-fields-gt14
returns-then-fields-gt14 c = laws.mode_above _ (search rules)

pub returns-then-not-endpoints_fit : goal.returns-then-not-endpoints_fit
returns-then-not-endpoints_fit c = laws.wide_endpoint _ c.endpoints_fit.ensures (c.if-not-endpoints_fit.true)

pub returns-then-not-partition_fits : goal.returns-then-not-partition_fits
returns-then-not-partition_fits c = laws.wide_partition c.args.fields c.partition_fits.ensures (c.if-not-partition_fits.true)

pub region_count-requires : goal.region_count-requires
region_count-requires c = laws.partition_known c.args.fields c.partition_fits.ensures (c.if-not-partition_fits.false)

pub returns-then-fields-region_count : goal.returns-then-fields-region_count
returns-then-fields-region_count c = laws.other_count c.args.fields c.region_count.ensures c.if-fields-region_count.true

pub indices_fit-requires : goal.indices_fit-requires
indices_fit-requires c = laws.partition_known c.args.fields c.partition_fits.ensures (c.if-not-partition_fits.false)

pub returns : goal.returns
returns c =
    laws.decided c.args.fields (search rules) (search rules) (search rules) (search rules) (search rules)
    c.endpoints_fit.ensures (c.if-not-endpoints_fit.false)
    c.partition_fits.ensures (c.if-not-partition_fits.false)
    c.region_count.ensures c.if-fields-region_count.false c.indices_fit.ensures
