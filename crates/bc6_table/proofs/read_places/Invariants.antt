-- `bc6_table::read_places` meets its contract: what is gathered so far and what is to come is the whole. Assumes nothing.
use Rattle.bcn_util.specs.Stream.{number}
use Rattle.bc6_table.proofs.Walk.{Walked}
use Rattle.bc6_table.proofs.read_places.Given as goal

abbrev pub invariant-loop-code : goal.invariant-loop-code
invariant-loop-code l = Walked l.mode (number l.initial.rest) l.values (number l.rest) l.code-index
