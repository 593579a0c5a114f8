-- `bc6_writer::scattered_bits` meets its contract: one code a turn, from the last. Assumes nothing.
use mathlib.Core.Path.{◌≡◌}
use Prim.Native.Nat.{◌-◌}
use lib.ListN.{length, drop}
use Rattle.bc6h_spec.specs.Writer.{scattered}
use Rattle.bc6_fields.specs.Places.{entry}
use Rattle.bc6_writer.proofs.scattered_bits.Given as goal

abbrev pub invariant-loop-code : goal.invariant-loop-code
invariant-loop-code l = l.bits ≡ scattered (drop (length l.codes - length l.yielded) l.codes) (entry l.places)
