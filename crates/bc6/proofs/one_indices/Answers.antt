-- `bc6::one_indices` meets its contract. Assumes nothing.
use Rattle.bc6.proofs.Link.{one_picked}
use Rattle.bc6.proofs.one_indices.Goals as goal

pub returns : goal.returns
returns c = one_picked _ _ _ c.skip.ensures c.new_p1-indexes.ensures
