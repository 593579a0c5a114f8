-- `bc6_valid::stored_bits` meets its contract. Assumes nothing.
use native.Mathlib.Omega.{arith}
use Rattle.bc6_valid.proofs.Sizes.{bits_range, size_first, size_fixup, size_other}
use Rattle.bc6_valid.proofs.stored_bits.Goals as goal

pub overflow_sub-result : goal.overflow_sub-result
overflow_sub-result c = let h = (bits_range c.args.mode).0 in omega (arith, c.index_bits-bits.ensures)

pub returns-then-pixel-eq0 : goal.returns-then-pixel-eq0
returns-then-pixel-eq0 c = size_first _ _ _ c.index_bits-bits.ensures c.if-pixel-eq0.true

pub overflow_sub-result-then-pixel-fixup : goal.overflow_sub-result-then-pixel-fixup
overflow_sub-result-then-pixel-fixup c = let h = (bits_range c.args.mode).0 in omega (arith, c.index_bits-bits.ensures)

pub returns-then-pixel-fixup : goal.returns-then-pixel-fixup
returns-then-pixel-fixup c = size_fixup _ _ _ c.index_bits-bits.ensures c.if-pixel-eq0.false c.if-pixel-fixup.true

pub returns : goal.returns
returns c = size_other _ _ _ c.index_bits-bits.ensures c.if-pixel-eq0.false c.if-pixel-fixup.false
