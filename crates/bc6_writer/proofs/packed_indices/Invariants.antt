-- `bc6_writer::packed_indices` meets its contract: one pixel a turn. Assumes nothing.
use Rattle.bc6_writer.proofs.Packing as laws
use Rattle.bc6_writer.proofs.packed_indices.Given as goal

abbrev pub invariant-loop-pixel : goal.invariant-loop-pixel
invariant-loop-pixel l = laws.So l.fields l.bits l.at l.pixel
