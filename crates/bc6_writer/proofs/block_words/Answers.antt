-- `bc6_writer::block_words` meets its contract: the indices above the rest. Assumes nothing.
use borrow.Author.Rules.{rules}
use mathlib.Core.Path.{◌∙◌, ap}
use native.Mathlib.Omega.{arith}
use Rattle.bcn_util.specs.Stream.{number}
use Rattle.bc6_writer.proofs.Scattering.{bits_range}
use Rattle.bc6_writer.proofs.Joining as laws
use Rattle.bc6_writer.proofs.block_words.Goals as goal

pub overflow_sub-above : goal.overflow_sub-above
overflow_sub-above c = let b = (bits_range c.args.fields.mode).0 in omega (arith, c.table_bits.ensures)

pub overflow_shl-hi : goal.overflow_shl-hi
overflow_shl-hi c =
    let h = laws.above_lt _ c.requires c.places_of.ensures c.table_words-low.result.lo c.table_words-low.result.hi _ _ c.table_words-low.ensures c.packed_indices.ensures c.table_bits.ensures in
    search rules

pub overflow_add-hi : goal.overflow_add-hi
overflow_add-hi c =
    let w = c.table_words-low.result in
    record { fits = laws.word_fits _ c.requires c.places_of.ensures w.lo w.hi _ _ c.table_words-low.ensures c.packed_indices.ensures c.table_bits.ensures (search rules) }

pub returns : goal.returns
returns c =
    let w = c.table_words-low.result in
    ap number c.of.ensures
    ∙ laws.number_is _ c.requires c.places_of.ensures w.lo w.hi _ _ c.table_words-low.ensures c.packed_indices.ensures c.table_bits.ensures
