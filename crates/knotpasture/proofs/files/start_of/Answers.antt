use Rattle.knotpasture.proofs.FileWords.{start_none, start_some}
use Rattle.knotpasture.proofs.files.start_of.Goals as goal

pub returns-then-read-ne-DONE : goal.returns-then-read-ne-DONE
returns-then-read-ne-DONE c = start_none _ c.if-read-ne-DONE.true

pub returns : goal.returns
returns c = start_some _ c.if-read-ne-DONE.false
