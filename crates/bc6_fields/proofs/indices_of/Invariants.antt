-- `bc6_fields::indices_of` meets its contract: one index a turn. Assumes nothing.
use mathlib.Core.Path.{◌≡◌}
use mathlib.Core.List.{◌++◌}
use lib.ListN.{drop}
use Rattle.laws.specs.Made.{made}
use Rattle.bcn_util.specs.Indexed.{index_at}
use Rattle.bc6_fields.proofs.indices_of.Given as goal

abbrev pub invariant-loop-pixel : goal.invariant-loop-pixel
invariant-loop-pixel l = l.index-items ≡ made (index_at l.indexes) l.pixel ++ drop l.pixel l.initial.index-items
