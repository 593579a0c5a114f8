use borrow.Author.Rules.{rules}
use mathlib.Core.Path.{ap}
use mathlib.Core.Bool.{not}
use Rattle.laws.specs.Search.{repeated}
use Rattle.laws.proofs.Chains.{any_below}
use Rattle.store_trust.specs.Ramp.{ramp_entry, entries_differ}
use Rattle.store_trust.proofs.entries_differ.Goals as goal

pub returns : goal.returns
unfolding entries_differ
returns c = ap not (any_below (repeated (ramp_entry c.args.palettes.now c.args.first c.args.channel)) c.args.count _ _ (λ x b q k. search rules) c.any.result c.any.ensures.ran)
