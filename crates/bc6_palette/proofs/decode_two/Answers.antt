-- `bc6_palette::decode_two` meets its contract: the parts, joined. Assumes nothing.
use mathlib.Core.Path.{ap}
use lib.Dec.{lit<, lit≤}
use Rattle.bcn_data.specs.declared.Subset2Map.{Subset2Map}
use Rattle.bc6_colour.proofs.Ends.{a0_is, palette_asks}
use Rattle.bc6_palette.proofs.Flat.{two_painted}
use Rattle.bc6_palette.proofs.decode_two.Goals as goal

pub generate_palette_unquantized-palette0-requires : goal.generate_palette_unquantized-palette0-requires
generate_palette_unquantized-palette0-requires c = (lit< tt, ((lit≤ tt, lit≤ tt, lit≤ tt), palette_asks c.args.signed _ c.requires.0 _ c.of-bits.ensures 0 1 _ _ (lit< tt) (lit< tt) c.first-a.ensures c.other-b.ensures))

pub generate_palette_unquantized-palette1-requires : goal.generate_palette_unquantized-palette1-requires
generate_palette_unquantized-palette1-requires c = (lit< tt, ((lit≤ tt, lit≤ tt, lit≤ tt), palette_asks c.args.signed _ c.requires.0 _ c.of-bits.ensures 2 3 _ _ (lit< tt) (lit< tt) c.other-c.ensures c.other-d.ensures))

pub returns : goal.returns
returns c =
    two_painted c.args.signed _ c.requires.0 _ _ _ (a0_is c.args.signed _ c.requires.0 _ c.of-bits.ensures)
    c.first-a.ensures c.other-b.ensures _ _ _ _ _ _ c.requires.1 c.other-c.ensures c.other-d.ensures
    c.generate_palette_unquantized-palette0.ensures c.generate_palette_unquantized-palette1.ensures
    (ap (λ (m : Subset2Map). m.subset_indexes) c.of-partition.ensures) c.paint_two.ensures
