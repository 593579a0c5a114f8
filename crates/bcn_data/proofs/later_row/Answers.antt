-- `bcn_data::later_row` meets its contract: each arm's number is the definition's, by computing; the last has what no arm before it has. Assumes nothing.
use Rattle.bcn_spec.specs.Rows.{fixups_of}
use Rattle.bcn_data.specs.Subsets.{later_row}
use Rattle.bcn_data.proofs.Arms.{last}
use Rattle.bcn_data.proofs.later_row.Goals as goal

pub returns-in_default : goal.returns-in_default
unfolding later_row fixups_of
returns-in_default c = last later_row 31 _ _ c.requires c.in_default.in_default-own.rest tt
