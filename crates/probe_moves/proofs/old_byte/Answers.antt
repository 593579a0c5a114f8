use Rattle.probe_moves.proofs.Moving.{back_kept, back_zero, back_block}
use borrow.Author.Rules.{rules}
use Rattle.probe_moves.proofs.old_byte.Goals as goal

pub returns-then-k-lt5 : goal.returns-then-k-lt5
returns-then-k-lt5 c = back_kept _ _ _ (search rules)

pub returns-then-k-lt-HEAD : goal.returns-then-k-lt-HEAD
returns-then-k-lt-HEAD c = back_zero _ _ _ (search rules) (search rules)

pub returns : goal.returns
returns c = back_block _ _ _ (search rules)
