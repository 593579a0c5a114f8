use Rattle.probe.proofs.Asking.{triple_shown}
use borrow.Author.Rules.{rules}
use Rattle.probe.proofs.triple_at.Goals as goal

pub returns : goal.returns
returns c = triple_shown _ _ _ _ (search rules) c.show_block.ensures
