use borrow.Author.Rules.{rules}
use Rattle.laws.proofs.Chains.{any_below}
use Rattle.store_trust.specs.Ramp.{entries_differ}
use Rattle.store_trust.proofs.some_channel_differs.Goals as goal

pub returns : goal.returns
returns c = any_below (entries_differ c.args.palettes.now c.args.first c.args.count) 3 _ _ (λ x b q k. search rules) c.any.result c.any.ensures.ran
