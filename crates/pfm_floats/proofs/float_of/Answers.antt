-- `pfm_floats::float_of` meets its contract. Assumes nothing.
use lib.Ieee.{nan_bits}
use borrow.Author.Rules.{rules}
use Rattle.pfm_floats.proofs.Chosen.{normal_bits, size_whole, one_bits, chosen}
use Rattle.pfm_floats.proofs.float_of.Goals as goal

pub float_from_bits-normal : goal.float_from_bits-normal
float_from_bits-normal c = normal_bits _ (search rules)

pub int_to_float-subnormal : goal.int_to_float-subnormal
int_to_float-subnormal c = size_whole _ (search rules)

pub float_from_bits-subnormal : goal.float_from_bits-subnormal
unfolding nan_bits
float_from_bits-subnormal c = search rules

pub float_from_bits-infinite : goal.float_from_bits-infinite
unfolding nan_bits
float_from_bits-infinite c = search rules

pub float_from_bits-sign : goal.float_from_bits-sign
float_from_bits-sign c = one_bits _ (search rules)

pub returns : goal.returns
returns c = chosen c.args.half (search rules) c.choose-high.ensures c.choose-number.ensures c.choose-magnitude.ensures
