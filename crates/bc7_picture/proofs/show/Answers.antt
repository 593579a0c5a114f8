-- `bc7_picture::show` meets its contract. Assumes nothing.
use Prim.Native.Nat.{zero-le}
use lib.Dec.{lit<}
use Rattle.laws.proofs.Arms.{past}
use Rattle.bcn_util.specs.Stream.{number}
use Rattle.bc7_picture.proofs.Placings.{placed_0, placed_1, placed_2, placed_3, placed_7, bits_0, bits_1, bits_3, bits_7}
use Rattle.bc7_picture.proofs.Modes.{shown_as, shown_none}
use Rattle.bc7_picture.proofs.show.Goals as goal

pub returns-in-0 : goal.returns-in-0
returns-in-0 c = shown_as _ _ c.args.out.now _ c.requires.0 0 c.in-0.is (lit< tt) c.show_three.ensures

pub returns-in-1 : goal.returns-in-1
returns-in-1 c = shown_as _ _ c.args.out.now _ c.requires.0 1 c.in-1.is (lit< tt) c.show_two.ensures

pub returns-in-2 : goal.returns-in-2
returns-in-2 c = shown_as _ _ c.args.out.now _ c.requires.0 2 c.in-2.is (lit< tt) c.show_three-in-2.ensures

pub returns-in-3 : goal.returns-in-3
returns-in-3 c = shown_as _ _ c.args.out.now _ c.requires.0 3 c.in-3.is (lit< tt) c.show_two-in-3.ensures

pub returns-in-4 : goal.returns-in-4
returns-in-4 c = shown_as _ _ c.args.out.now _ c.requires.0 4 c.in-4.is (lit< tt) c.show_4.ensures

pub returns-in-5 : goal.returns-in-5
returns-in-5 c = shown_as _ _ c.args.out.now _ c.requires.0 5 c.in-5.is (lit< tt) c.show_5.ensures

pub returns-in-6 : goal.returns-in-6
returns-in-6 c = shown_as _ _ c.args.out.now _ c.requires.0 6 c.in-6.is (lit< tt) c.show_6.ensures

pub returns-in-7 : goal.returns-in-7
returns-in-7 c = shown_as _ _ c.args.out.now _ c.requires.0 7 c.in-7.is (lit< tt) c.show_two-in-7.ensures

pub returns-in_default : goal.returns-in_default
returns-in_default c = shown_none _ _ c.args.out.now _ c.requires.0 (past 0 _ 8 zero-le c.in_default.in_default-own.rest) c.write_black.ensures

pub show_three-requires-clause-placed : goal.show_three-requires-clause-placed
show_three-requires-clause-placed c = placed_0

pub show_three-requires-clause-p_bits : goal.show_three-requires-clause-p_bits
show_three-requires-clause-p_bits c = bits_0 (number c.args.s) c.run.ensures.is

pub show_two-requires-clause-placed : goal.show_two-requires-clause-placed
show_two-requires-clause-placed c = placed_1

pub show_two-requires-clause-p_bits : goal.show_two-requires-clause-p_bits
show_two-requires-clause-p_bits c = bits_1 (number c.args.s) c.both_sides.ensures c.run-in-1.ensures.is c.run-in-1-2.ensures.is

pub show_three-requires-in-2-clause-placed : goal.show_three-requires-in-2-clause-placed
show_three-requires-in-2-clause-placed c = placed_2

pub show_two-requires-in-3-clause-placed : goal.show_two-requires-in-3-clause-placed
show_two-requires-in-3-clause-placed c = placed_3

pub show_two-requires-in-3-clause-p_bits : goal.show_two-requires-in-3-clause-p_bits
show_two-requires-in-3-clause-p_bits c = bits_3 (number c.args.s) c.run-in-3.ensures.is

pub show_two-requires-in-7-clause-placed : goal.show_two-requires-in-7-clause-placed
show_two-requires-in-7-clause-placed c = placed_7

pub show_two-requires-in-7-clause-p_bits : goal.show_two-requires-in-7-clause-p_bits
show_two-requires-in-7-clause-p_bits c = bits_7 (number c.args.s) c.run-in-7.ensures.is
