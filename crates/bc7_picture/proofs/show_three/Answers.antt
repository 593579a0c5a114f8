-- `bc7_picture::show_three` meets its contract. Assumes nothing.
use mathlib.Core.Path.{refl}
use Prim.Native.Nat.{◌<◌}
use native.Mathlib.Nat.{lt_of_lt_of_le}
use lib.Pow.{pow_mono}
use Rattle.bc7_picture.proofs.Marks.{Three, three, three_rising}
use Rattle.bc7_picture.proofs.Placings.{shown}
use Rattle.bc7_picture.proofs.show_three.Goals as goal

pub row-map-requires : goal.row-map-requires
row-map-requires g c = lt_of_lt_of_le c.run.ensures.small (pow_mono {j = 6} c.requires.placed.partition_most)

pub weigh_three-weights-requires : goal.weigh_three-weights-requires
weigh_three-weights-requires g c =
    let few : c.run.result < 64 = lt_of_lt_of_le c.run.ensures.small (pow_mono {j = 6} c.requires.placed.partition_most) in
    let map : Three c.run.result c.row-map.result = three c.run.result c.row-map.result few c.row-map.ensures in
    let here = c.requires.placed in
    (here.at_most, here.low_bits, here.high_bits, map.low_positive, map.low_high, map.high_fits)

pub returns : goal.returns
returns g c =
    let few : c.run.result < 64 = lt_of_lt_of_le c.run.ensures.small (pow_mono {j = 6} c.requires.placed.partition_most) in
    let map : Three c.run.result c.row-map.result = three c.run.result c.row-map.result few c.row-map.ensures in
    shown c.requires.placed c.requires.p_bits map.marked refl (three_rising map) c.run.ensures.is refl c.ends_in-ends.ensures c.weigh_three-weights.ensures
    c.args.out.now _ c.paint_regions.ensures
