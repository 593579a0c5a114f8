-- `bc6_valid::own_bits` meets its contract. Assumes nothing.
use Rattle.bc6_valid.proofs.Sizes.{own_red, own_green, own_blue}
use Rattle.bc6_valid.proofs.own_bits.Goals as goal

pub returns-in-0 : goal.returns-in-0
returns-in-0 c = own_red _ c.requires.0 _ c.in-0.is

pub returns-in-1 : goal.returns-in-1
returns-in-1 c = own_green _ c.requires.0 _ c.in-1.is

pub returns-in_default : goal.returns-in_default
returns-in_default c = own_blue _ c.requires.0 _ c.requires.1 c.in_default.in_default-own.rest.0.1 c.in_default.in_default-own.rest.1
