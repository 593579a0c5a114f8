-- `bcn_data::packed_row` meets its contract: each arm's number is the definition's, by computing; the last has what no arm before it has. Assumes nothing.
use Rattle.bcn_spec.specs.Regions.{partitions}
use Rattle.bcn_data.specs.Subsets.{packed_row}
use Rattle.bcn_data.proofs.Arms.{last}
use Rattle.bcn_data.proofs.packed_row.Goals as goal

pub returns-in_default : goal.returns-in_default
unfolding packed_row partitions
returns-in_default c = last packed_row 31 _ _ c.requires c.in_default.in_default-own.rest tt
