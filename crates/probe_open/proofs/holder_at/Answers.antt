-- `probe_open::holder_at` meets its contract. Assumes nothing.
use borrow.Author.Rules.{rules}
use mathlib.Core.Path.{ap, ◌∙◌}
use Prim.Native.Nat.{ℕ}
use lib.ListN.{get_or}
use Rattle.probe_open.proofs.holder_at.Goals as goal

pub number_at-requires : goal.number_at-requires
number_at-requires c = (search rules, search rules, search rules)

pub returns : goal.returns
returns c = c.from.ensures ∙ ap (λ (k : ℕ). get_or c.args.table.now k 0) c.number_at.ensures.0
