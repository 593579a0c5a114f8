use Rattle.probe_moves.proofs.Moving.{byte_kept, byte_face, byte_zero, byte_block}
use borrow.Author.Rules.{rules}
use Rattle.probe_moves.proofs.placed_byte.Goals as goal

pub returns-then-k-lt5 : goal.returns-then-k-lt5
returns-then-k-lt5 c = byte_kept _ _ _ (search rules)

pub returns-then-k-eq5 : goal.returns-then-k-eq5
returns-then-k-eq5 c = byte_face _ _ _ (search rules)

pub returns-then-k-lt-HEAD : goal.returns-then-k-lt-HEAD
returns-then-k-lt-HEAD c = byte_zero _ _ _ (search rules) (search rules) (search rules)

pub returns : goal.returns
returns c = byte_block _ _ _ (search rules)
