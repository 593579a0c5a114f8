-- `bc6_paint::turn_at` meets its contract: the regions by the map's halves, the weights by the indices of the word's. Assumes nothing.
use mathlib.Core.Path.{◌∙◌}
use Rattle.bc6_half.specs.Halves.{weights_of}
use Rattle.bc6_paint.proofs.Pixels.{weight_low, weight_high, mask_above}
use Rattle.bc6_paint.proofs.turn_at.Goals as goal

pub returns : goal.returns
returns g c =
    record {
      region = c.region_mask.ensures;
      region8 = c.region_mask-2.ensures ∙ mask_above c.args.map c.args.k;
      weighs = weight_low (weights_of g.row.BITS) g.row.BITS c.args.word _ c.args.k _ _ c.index.ensures.0 c.weight.ensures.0 c.low.ensures c.requires.1;
      weighs8 = weight_high (weights_of g.row.BITS) g.row.BITS c.args.word _ c.args.k _ _ c.index-2.ensures.0 c.weight-2.ensures.0 c.high.ensures c.requires.1;
      most = c.weight.ensures.1;
      most8 = c.weight-2.ensures.1;
    }
