-- `text_infinities::first_infinite` meets its contract. Assumes nothing.
use Rattle.std.proofs.Common.{rules, ◌∙◌}
use Rattle.laws.proofs.Chains.{first_found}
use Rattle.text_infinities.specs.Infinities.{infinite_at}
use Rattle.text_infinities.proofs.first_infinite.Goals as goal

pub returns : goal.returns
unfolding infinite_at
returns c = c.unwrap_or.ensures ∙ first_found (infinite_at c.args.values.now) _ _ _ (λ x b q k. search rules) c.find.result c.find.ensures.ran
