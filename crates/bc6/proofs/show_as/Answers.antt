-- `bc6::show_as` meets its contract: the parts, joined, by the number of regions. Assumes nothing.
use mathlib.Core.Bool.{not}
use lib.Dec.{eqb}
use Rattle.bc6h_spec.proofs.Formats.{number_le}
use Rattle.bc6.proofs.Codes.{words_two, words_one}
use Rattle.bc6.proofs.Link.{two_painted, one_painted, same_picks, same_indices}
use Rattle.bc6.proofs.show_as.Goals as goal

pub returns-then-lo-ne3 : goal.returns-then-lo-ne3
returns-then-lo-ne3 g c =
    two_painted _ _ _ (number_le (not (eqb g.row.SIGNED 0))) c.requires.0 c.ends-ends.ensures (words_two _ _ c.if-lo-ne3.true) _
    (same_picks c.of-stream.ensures c.two_picks-picks.ensures) c.paint.ensures

pub returns : goal.returns
returns g c =
    one_painted _ _ _ (number_le (not (eqb g.row.SIGNED 0))) c.requires.0 c.ends-ends.ensures (words_one _ _ c.if-lo-ne3.false) _
    (same_indices c.of-stream.ensures c.one_indices.ensures) c.paint-2.ensures
