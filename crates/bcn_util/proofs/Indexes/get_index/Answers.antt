-- `Indexes::get_index` meets its contract. Assumes nothing.
use borrow.Author.Rules.{rules}
use lib.Pow.{pow_pos}
use Rattle.bcn_util.proofs.Words.{one_shl}
use Rattle.bcn_util.proofs.Expand.{start_le, index_fits}
use Rattle.bcn_util.proofs.Indexes.get_index.Goals as goal

pub overflow_mul-result : goal.overflow_mul-result
overflow_mul-result c = let h = start_le _ _ c.requires.1 c.requires.0 in search rules

pub overflow_shr-result : goal.overflow_shr-result
overflow_shr-result c = let h = start_le _ _ c.requires.1 c.requires.0 in search rules

pub nonzero_rem-result : goal.nonzero_rem-result
nonzero_rem-result c = rw (one_shl c.args.self.bits (search rules)) (pow_pos c.args.self.bits)

pub overflow_cast-result : goal.overflow_cast-result
overflow_cast-result c = record { fits = index_fits _ _ c.requires.1 }

pub returns : goal.returns
returns c = rw (one_shl c.args.self.bits (search rules))
