-- `bc6_runs::word` meets its contract: the runs so far, each added to its endpoint's number. Assumes nothing.
use mathlib.Core.Path.{◌≡◌}
use lib.ListN.{take}
use Rattle.bcn_util.specs.Stream.{number}
use Rattle.bc6_runs.specs.Ends.{four_of, sum_at}
use Rattle.bc6_runs.proofs.word.Given as goal

abbrev pub invariant-loop-code : goal.invariant-loop-code
invariant-loop-code l = l.numbers ≡ four_of (sum_at (number l.stream) (take l.code-index l.runs))
