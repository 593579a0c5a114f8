use borrow.Author.Rules.{rules}
use mathlib.Core.Path.{sym, ◌∙◌, ap}
use Rattle.std.specs.Option.{unwrap_or}
use Rattle.laws.specs.First.{first_below}
use Rattle.laws.proofs.Chains.{first_found}
use Rattle.store_twins.specs.Strict.{damaged, first_damaged}
use Rattle.store_twins.proofs.Strictness.{long_none}
use Rattle.store_twins.proofs.first_damaged.Goals as goal

pub returns-then-store-gt-STORE : goal.returns-then-store-gt-STORE
returns-then-store-gt-STORE c = c.record_count-count.ensures ∙ long_none _ c.if-store-gt-STORE.true

pub returns-in-Some : goal.returns-in-Some
unfolding first_damaged
returns-in-Some c =
    ap (λ o. unwrap_or o c.record_count-count.result) (sym c.in-Some.is)
    ∙ first_found (damaged c.args.store.now) _ _ _ (λ x b q k. search rules) c.find.result c.find.ensures.ran
    ∙ ap (first_below (damaged c.args.store.now)) c.record_count-count.ensures

pub returns-in-None : goal.returns-in-None
unfolding first_damaged
returns-in-None c =
    ap (λ o. unwrap_or o c.record_count-count.result) (sym c.in-None.is)
    ∙ first_found (damaged c.args.store.now) _ _ _ (λ x b q k. search rules) c.find.result c.find.ensures.ran
    ∙ ap (first_below (damaged c.args.store.now)) c.record_count-count.ensures
