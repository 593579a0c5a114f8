use mathlib.Core.Path.{◌≡◌}
use mathlib.Core.List.{◌++◌}
use lib.ListN.{drop, length}
use Rattle.text.specs.Text.{decimal, decimal_in}
use Rattle.text.proofs.put_decimal.Given as goal

abbrev pub invariant-loop-first : goal.invariant-loop-first
invariant-loop-first l = (l.text ≡ l.initial.text) × (length l.digits ≡ 20) × (decimal l.n ≡ decimal_in l.first l.rest ++ drop l.first l.digits)
