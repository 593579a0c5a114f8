-- `pfm::side_even` meets its contract. Assumes nothing.
use borrow.Author.Rules.{rules}
use Rattle.pfm.proofs.Calls.{side_none, side_large, side_fours}
use Rattle.pfm.proofs.side_even.Goals as goal

pub returns-then-side-lt1 : goal.returns-then-side-lt1
returns-then-side-lt1 c = side_none _ (search rules)

pub returns-then-side-gt-LIMIT : goal.returns-then-side-gt-LIMIT
returns-then-side-gt-LIMIT c = side_large _ (search rules) (search rules)

pub returns : goal.returns
returns c = side_fours _ (search rules) (search rules)
