-- `bc7_picture::show_two` meets its contract. Assumes nothing.
use mathlib.Core.Path.{refl}
use native.Mathlib.Nat.{lt_of_lt_of_le}
use native.Mathlib.Omega.{arith}
use lib.Dec.{lit≤}
use Rattle.bc7_picture.proofs.Marks.{Two, two, two_rising}
use Rattle.bc7_picture.proofs.Placings.{shown}
use Rattle.bc7_picture.proofs.show_two.Goals as goal

pub weigh_two-weights-requires : goal.weigh_two-weights-requires
weigh_two-weights-requires g c =
    let map : Two c.run.result c.row-map.result = two c.run.result c.row-map.result (lt_of_lt_of_le c.run.ensures.small (lit≤ tt)) c.row-map.ensures in
    let here = c.requires.placed in
    (here.at_most, here.low_bits, here.high_bits, map.low_positive, map.low_fits)

pub returns : goal.returns
returns g c =
    let map : Two c.run.result c.row-map.result = two c.run.result c.row-map.result (lt_of_lt_of_le c.run.ensures.small (lit≤ tt)) c.row-map.ensures in
    shown c.requires.placed c.requires.p_bits map.marked refl (two_rising map) c.run.ensures.is (omega arith) c.ends_in-ends.ensures c.weigh_two-weights.ensures
    c.args.out.now _ c.paint_regions.ensures
