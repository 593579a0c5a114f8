-- `bc6_colour::Colour::first` meets its contract: channel by channel. Assumes nothing.
use lib.Dec.{lit<}
use Rattle.laws.proofs.Num.{read}
use Rattle.bc6_colour.specs.Colours.{end_of}
use Rattle.bc6_colour.proofs.Ends.{colour_is, first_asks, first_is}
use Rattle.bc6_colour.proofs.Colour.first.Goals as goal

pub first_end-requires : goal.first_end-requires
first_end-requires c = first_asks c.args.signed _ c.requires.0 _ c.requires.1 0 (lit< tt)

pub first_end-requires-2 : goal.first_end-requires-2
first_end-requires-2 c = first_asks c.args.signed _ c.requires.0 _ c.requires.1 1 (lit< tt)

pub first_end-requires-3 : goal.first_end-requires-3
first_end-requires-3 c = first_asks c.args.signed _ c.requires.0 _ c.requires.1 2 (lit< tt)

pub returns : goal.returns
unfolding end_of
returns c =
    let x = c.first_end in
    let y = c.first_end-2 in
    let z = c.first_end-3 in
    colour_is
    (read x.type_inv (first_is c.args.signed _ c.requires.0 _ c.requires.1 0 _ x.ensures))
    (read y.type_inv (first_is c.args.signed _ c.requires.0 _ c.requires.1 1 _ y.ensures))
    (read z.type_inv (first_is c.args.signed _ c.requires.0 _ c.requires.1 2 _ z.ensures))
