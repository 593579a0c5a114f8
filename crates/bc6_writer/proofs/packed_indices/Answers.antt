-- `bc6_writer::packed_indices` meets its contract: one pixel a turn. Assumes nothing.
use borrow.Author.Rules.{rules}
use Rattle.bc6_writer.proofs.Packing as laws
use Rattle.bc6_writer.proofs.packed_indices.Goals as goal

pub loop-pixel-init : goal.loop-pixel-init
loop-pixel-init c = laws.so_first _ c.requires

pub overflow_shl-bits : goal.overflow_shl-bits
overflow_shl-bits c = let h = laws.so_at _ c.requires c.loop-pixel.invariant (search rules) in search rules

pub overflow_add-bits : goal.overflow_add-bits
overflow_add-bits c = record { fits = laws.so_fits _ c.requires c.loop-pixel.invariant (search rules) }

pub overflow_add-at : goal.overflow_add-at
overflow_add-at c = record { fits = laws.so_place _ c.requires c.loop-pixel.invariant (search rules) c.second_fixup-fixup.ensures c.stored_bits.ensures }

pub loop-pixel-preserved : goal.loop-pixel-preserved
loop-pixel-preserved c = laws.so_next _ c.requires c.loop-pixel.invariant (search rules) c.second_fixup-fixup.ensures c.stored_bits.ensures

pub returns : goal.returns
returns c = laws.so_done _ c.requires c.loop-pixel.invariant (search rules) (search rules)
