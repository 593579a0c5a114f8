use borrow.Author.Rules.{rules}
use Rattle.bc6_numbers.proofs.Record.{at_format, at_mode, at_endpoint, at_partition, at_region1, at_index}
use Rattle.bc6_numbers.proofs.number_at.Goals as goal

pub returns-then-k-lt1 : goal.returns-then-k-lt1
returns-then-k-lt1 c = at_format _ _ (search rules)

pub returns-then-k-lt2 : goal.returns-then-k-lt2
returns-then-k-lt2 c = at_mode _ _ (search rules) (search rules)

pub returns-then-k-lt14 : goal.returns-then-k-lt14
returns-then-k-lt14 c = at_endpoint _ _ (search rules) (search rules) (search rules)

pub returns-then-k-lt15 : goal.returns-then-k-lt15
returns-then-k-lt15 c = at_partition _ _ (search rules) (search rules) (search rules) (search rules)

pub returns-then-k-lt16 : goal.returns-then-k-lt16
returns-then-k-lt16 c = at_region1 _ _ (search rules) (search rules) (search rules) (search rules) (search rules)

pub returns : goal.returns
returns c = at_index _ _ (search rules) (search rules) (search rules) (search rules) (search rules)
