-- `run_dds::told` meets its contract. Assumes nothing.
use Rattle.run_dds.proofs.Telling.{told_bc6h, told_refused, told_bc7}
use Rattle.run_dds.proofs.told.Goals as goal

pub returns-then-bc6h-ne-FOREIGN_HEADER : goal.returns-then-bc6h-ne-FOREIGN_HEADER
returns-then-bc6h-ne-FOREIGN_HEADER c = told_bc6h _ c.args.bc7 c.if-bc6h-ne-FOREIGN_HEADER.true

pub returns-then-bc7-ne-DONE : goal.returns-then-bc7-ne-DONE
returns-then-bc7-ne-DONE c = told_refused _ _ c.if-bc6h-ne-FOREIGN_HEADER.false c.if-bc7-ne-DONE.true

pub returns : goal.returns
returns c = told_bc7 _ _ c.if-bc6h-ne-FOREIGN_HEADER.false c.if-bc7-ne-DONE.false
