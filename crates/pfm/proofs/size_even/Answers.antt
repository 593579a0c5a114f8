-- `pfm::size_even` meets its contract. Assumes nothing.
use mathlib.Core.Path.{sym, ◌∙◌}
use Rattle.pfm.proofs.Calls.{size_no, size_other}
use Rattle.pfm.proofs.size_even.Goals as goal

pub returns-then-not-side_even : goal.returns-then-not-side_even
returns-then-not-side_even c = size_no _ _ (sym c.side_even.ensures ∙ c.if-not-side_even.true)

pub returns : goal.returns
returns c = size_other _ _ (sym c.side_even.ensures ∙ c.if-not-side_even.false) c.side_even-2.ensures
