use borrow.Author.Rules.{rules}
use Rattle.laws.proofs.Chains.{any_below}
use Rattle.store_copies.specs.Trust.{indexed_at, reaches}
use Rattle.store_trust.proofs.reaches.Goals as goal

pub returns : goal.returns
unfolding reaches
returns c = any_below (indexed_at c.args.fields c.args.region c.args.n) 16 _ _ (λ x b q k. search rules) c.any.result c.any.ensures.ran
