-- `run_show::put_answer` meets its contract: one byte a turn. Assumes nothing.
use mathlib.Core.Path.{◌≡◌}
use mathlib.Core.List.{◌++◌}
use lib.ListN.{drop}
use Rattle.laws.specs.Made.{made}
use Rattle.run_show.specs.Picture.{picture_byte}
use Rattle.run_show.proofs.put_answer.Given as goal

abbrev pub invariant-loop-k : goal.invariant-loop-k
invariant-loop-k l = l.byte-items ≡ made (picture_byte l.answer l.values) l.k ++ drop l.k l.initial.byte-items
