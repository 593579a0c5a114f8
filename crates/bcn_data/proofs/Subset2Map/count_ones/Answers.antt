-- `Subset2Map::count_ones` meets its contract: the ones of the map are its pixels of region 1. Assumes nothing.
use borrow.Author.Rules.{rules}
use Rattle.bcn_spec.proofs.Partitions.{ones_counted}
use Rattle.bcn_data.proofs.Subset2Map.count_ones.Goals as goal

pub returns : goal.returns
returns c = ones_counted 16 c.args.self.subset_indexes (search rules)
