-- `dds::put_header` meets its contract: the words that are written. Assumes nothing.
use mathlib.Core.Path.{◌≡◌}
use mathlib.Core.List.{◌++◌}
use Prim.Native.Nat.{◌*◌}
use lib.ListN.{drop}
use Rattle.laws.specs.Made.{made}
use Rattle.dds.specs.Dds.{words_byte}
use Rattle.dds.proofs.put_header.Given as goal

abbrev pub invariant-loop-i : goal.invariant-loop-i
invariant-loop-i l = l.out ≡ made (words_byte l.word-items) (4 * l.i) ++ drop (4 * l.i) l.initial.out
