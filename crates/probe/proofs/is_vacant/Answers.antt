use Rattle.probe.proofs.Holding.{vacant_column, vacant_row, vacant_holder}
use borrow.Author.Rules.{rules}
use Rattle.probe.proofs.is_vacant.Goals as goal

pub returns-then-k-edge : goal.returns-then-k-edge
returns-then-k-edge c = vacant_column _ _ _ (search rules)

pub returns-then-k-edge-2 : goal.returns-then-k-edge-2
returns-then-k-edge-2 c = vacant_row _ _ _ (search rules) (search rules)

pub returns : goal.returns
returns c = vacant_holder _ _ _ (search rules) (search rules)
