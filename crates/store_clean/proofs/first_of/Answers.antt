use borrow.Author.Rules.{rules}
use mathlib.Core.Path.{sym, ◌∙◌}
use Rattle.laws.proofs.Chains.{first_found}
use Rattle.store_records.proofs.Readings.{refused}
use Rattle.store_clean.specs.Clean.{repeats, first_of}
use Rattle.store_clean.proofs.Repeating as laws
use Rattle.store_clean.proofs.first_of.Goals as goal

pub returns-in_default : goal.returns-in_default
returns-in_default c = sym (laws.none_refused _ _ (refused c.record_at.ensures c.in_default.is))

pub returns : goal.returns
unfolding first_of
returns c = c.unwrap_or.ensures ∙ first_found (repeats c.args.store.now c.args.n) _ _ _ (λ x b q k. search rules) c.find.result c.find.ensures.ran
