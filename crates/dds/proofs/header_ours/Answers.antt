-- `dds::header_ours` meets its contract. Assumes nothing.
use borrow.Author.Rules.{rules}
use Rattle.dds.proofs.Headers.{ours_short, ours_fields}
use Rattle.dds.proofs.header_ours.Goals as goal

pub returns-then-file-lt-HEADER : goal.returns-then-file-lt-HEADER
returns-then-file-lt-HEADER c = ours_short _ _ _ (search rules)

pub returns : goal.returns
returns c = ours_fields _ _ _ (search rules) c.fields_ours.ensures
