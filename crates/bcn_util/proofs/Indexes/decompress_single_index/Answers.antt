-- `Indexes::decompress_single_index` meets its contract. Assumes nothing.
use borrow.Author.Rules.{rules}
use Rattle.bcn_util.proofs.Expand.{start_le, top_le, opens, opens_fits}
use Rattle.bcn_util.proofs.Indexes.decompress_single_index.Goals as goal

pub overflow_mul-top : goal.overflow_mul-top
overflow_mul-top c = let h = start_le _ _ c.requires.1 c.requires.2 in search rules

pub overflow_add-top : goal.overflow_add-top
overflow_add-top c = let h = start_le _ _ c.requires.1 c.requires.2 in search rules

pub overflow_shr-result : goal.overflow_shr-result
overflow_shr-result c = let h = top_le _ _ c.requires.1 c.requires.2 in search rules

pub overflow_shl-result : goal.overflow_shl-result
overflow_shl-result c = let h = top_le _ _ c.requires.1 c.requires.2 in search rules

pub overflow_add-result : goal.overflow_add-result
overflow_add-result c = record { fits = opens_fits _ _ c.requires.3 }

pub returns : goal.returns
returns c = opens _ _ c.requires.3
