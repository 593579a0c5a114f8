use Rattle.probe_places.proofs.Checks.{on_face, off_face, with_column, with_row, without}
use borrow.Author.Rules.{rules}
use Rattle.probe_places.proofs.Place.refusal.Goals as goal

pub returns-then-self-lt-FACES : goal.returns-then-self-lt-FACES
returns-then-self-lt-FACES c = on_face _ (search rules)

pub returns-then-self-ne-NONE : goal.returns-then-self-ne-NONE
returns-then-self-ne-NONE c = off_face _ (search rules) (search rules)

pub returns-then-self-ne0 : goal.returns-then-self-ne0
returns-then-self-ne0 c = with_column _ (search rules) (search rules)

pub returns-then-self-ne0-2 : goal.returns-then-self-ne0-2
returns-then-self-ne0-2 c = with_row _ (search rules) (search rules) (search rules)

pub returns : goal.returns
returns c = without _ (search rules) (search rules) (search rules)
