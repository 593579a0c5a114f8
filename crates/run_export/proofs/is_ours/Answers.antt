-- `run_export::is_ours` meets its contract. Assumes nothing.
use Rattle.laws.proofs.Tests.{and_both}
use Rattle.run_export.specs.Export.{wish_ours}
use Rattle.run_export.proofs.is_ours.Goals as goal

pub returns : goal.returns
unfolding wish_ours
returns c = rw c.size_ours-size.ensures (simp and_both)
