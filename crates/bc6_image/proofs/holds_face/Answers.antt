-- `bc6_image::holds_face` meets its contract. Assumes nothing.
use borrow.Author.Rules.{rules}
use Rattle.bc6_image.proofs.Calls.{broken_row}
use Rattle.bc6_image.proofs.holds_face.Goals as goal

pub returns-then-count-width-ne0 : goal.returns-then-count-width-ne0
returns-then-count-width-ne0 c = broken_row _ _ _ (search rules) c.if-count-width-ne0.true
