-- `pfm::put_quarter` meets its contract. Assumes nothing.
use borrow.Author.Rules.{rules}
use Rattle.pfm.proofs.Bands.{four_pixels}
use Rattle.pfm.proofs.put_quarter.Goals as goal

pub put_rgb-requires : goal.put_rgb-requires
put_rgb-requires c = (search rules, c.requires.2.each _ (search rules))

pub put_rgb-requires-2 : goal.put_rgb-requires-2
put_rgb-requires-2 c = (search rules, c.requires.2.each _ (search rules))

pub put_rgb-requires-3 : goal.put_rgb-requires-3
put_rgb-requires-3 c = (search rules, c.requires.2.each _ (search rules))

pub put_rgb-requires-4 : goal.put_rgb-requires-4
put_rgb-requires-4 c = (search rules, c.requires.2.each _ (search rules))

pub returns : goal.returns
returns c =
    let s = c.args in
    four_pixels s.colours s.row s.out.now _ _ _ _ s.at c.put_rgb.ensures c.put_rgb-2.ensures c.put_rgb-3.ensures c.put_rgb-4.ensures
