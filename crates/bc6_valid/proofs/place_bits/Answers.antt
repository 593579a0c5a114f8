-- `bc6_valid::place_bits` meets its contract. Assumes nothing.
use borrow.Author.Rules.{rules}
use Rattle.bc6_valid.proofs.Sizes.{first_width, second_width, last_width, no_width}
use Rattle.bc6_valid.proofs.place_bits.Goals as goal

pub returns-then-place-lt3 : goal.returns-then-place-lt3
returns-then-place-lt3 c = first_width _ c.requires.0 _ (search rules)

pub returns-then-place-lt6 : goal.returns-then-place-lt6
returns-then-place-lt6 c = second_width _ _ (search rules) (search rules) c.own_bits.ensures

pub returns-then-mode-le10 : goal.returns-then-mode-le10
returns-then-mode-le10 c = last_width _ _ (search rules) (search rules) (search rules) (search rules) c.own_bits-then-mode-le10.ensures

pub returns : goal.returns
returns c = no_width _ _ (search rules) (search rules) (search rules) (search rules)
