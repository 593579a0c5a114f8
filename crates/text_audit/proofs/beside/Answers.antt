use Rattle.text_audit.proofs.Twins as twins
use borrow.Author.Rules.{rules}
use Rattle.text_audit.proofs.beside.Goals as goal

pub returns-then-first-n : goal.returns-then-first-n
returns-then-first-n c = twins.copy_beside _ _ _ (search rules)

pub returns : goal.returns
returns c = twins.twin_beside _ _ c.args.first (search rules) c.first_twin.ensures
