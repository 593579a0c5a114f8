-- `bc6_writer::table_words` meets its contract: a row of the table, in two parts. Assumes nothing.
use borrow.Author.Rules.{rules}
use mathlib.Core.Path.{◌∙◌, sym, ap}
use lib.ListN.{take}
use lib.Seq.{length-take-le}
use Rattle.bcn_util.specs.Stream.{number}
use Rattle.bc6_writer.proofs.Scattering as laws
use Rattle.bc6_writer.proofs.table_words.Goals as goal

pub slice_bounds-scattered_bits-end : goal.slice_bounds-scattered_bits-end
slice_bounds-scattered_bits-end c = let p = c.requires in sym (length-take-le 64 _ (laws.row_long _ p.0 p.1 c.row_of-codes.ensures))

pub scattered_bits-lo-requires : goal.scattered_bits-lo-requires
scattered_bits-lo-requires c = let p = c.requires in laws.low_places _ p.0 p.1 (ap (take 64) c.row_of-codes.ensures)

pub slice_bounds-scattered_bits-count : goal.slice_bounds-scattered_bits-count
slice_bounds-scattered_bits-count c = let p = c.requires in laws.row_long _ p.0 p.1 c.row_of-codes.ensures

pub slice_bounds-scattered_bits-start : goal.slice_bounds-scattered_bits-start
slice_bounds-scattered_bits-start c = let p = c.requires in let h = laws.row_long _ p.0 p.1 c.row_of-codes.ensures in search rules

pub scattered_bits-hi-requires : goal.scattered_bits-hi-requires
scattered_bits-hi-requires c = let p = c.requires in laws.high_places _ p.0 p.1 (laws.high_part _ p.0 p.1 c.row_of-codes.ensures)

pub returns : goal.returns
returns c =
    let p = c.requires in
    ap number c.of.ensures
    ∙ laws.words_joined _ p.0 p.1 _ c.scattered_bits-lo.ensures (ap (take 64) c.row_of-codes.ensures) c.scattered_bits-hi.ensures
    (laws.high_part _ p.0 p.1 c.row_of-codes.ensures)
