-- `run_export::Kind::numbered` meets its contract. Assumes nothing.
use borrow.Author.Rules.{rules}
use Rattle.run_export.specs.Wishes.{kind_number}
use Rattle.run_export.proofs.Kind.numbered.Goals as goal

pub returns-then-number-eq0 : goal.returns-then-number-eq0
unfolding kind_number
returns-then-number-eq0 c = search rules

pub returns-else-number-eq0 : goal.returns-else-number-eq0
unfolding kind_number
returns-else-number-eq0 c = search rules
