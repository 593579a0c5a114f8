-- `bc6_palette::decode_one` meets its contract: the parts, joined. Assumes nothing.
use lib.Dec.{lit<, lit≤}
use Rattle.bc6_colour.proofs.Ends.{a0_is, palette_asks}
use Rattle.bc6_palette.proofs.Flat.{one_painted}
use Rattle.bc6_palette.proofs.decode_one.Goals as goal

pub generate_palette_unquantized-palette-requires : goal.generate_palette_unquantized-palette-requires
generate_palette_unquantized-palette-requires c = (lit< tt, ((lit≤ tt, lit≤ tt, lit≤ tt), palette_asks c.args.signed _ c.requires.0 _ c.of-bits.ensures 0 1 _ _ (lit< tt) (lit< tt) c.first-a.ensures c.other-b.ensures))

pub returns : goal.returns
returns c =
    one_painted c.args.signed _ c.requires.0 _ _ _ (a0_is c.args.signed _ c.requires.0 _ c.of-bits.ensures) c.first-a.ensures c.other-b.ensures
    _ _ c.requires.1 c.generate_palette_unquantized-palette.ensures c.paint_one.ensures
