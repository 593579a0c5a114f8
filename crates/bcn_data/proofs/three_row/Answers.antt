-- `bcn_data::three_row` meets its contract: each arm's number is the definition's, by computing; the last has what no arm before it has. Assumes nothing.
use Rattle.bcn_spec.specs.Rows.{partition_set_3, fixups_of}
use Rattle.bcn_data.specs.Subsets.{three_row}
use Rattle.bcn_data.proofs.Arms.{last}
use Rattle.bcn_data.proofs.three_row.Goals as goal

pub returns-in_default : goal.returns-in_default
unfolding three_row partition_set_3 fixups_of
returns-in_default c = last three_row 63 _ _ c.requires c.in_default.in_default-own.rest tt
