use Rattle.std.proofs.Common.{◌≡◌, true, false, refl, rules, tests}
use Rattle.std.proofs.lemmas.Iterator.{cases_from_any, YieldsList-from_range}
use Rattle.probe.specs.Held.{vacant}
use Rattle.probe.proofs.Ranges.{some_of}
use Rattle.probe.proofs.has_vacant.Goals as goal

pub returns : goal.returns
returns c =
    let test = vacant c.args.holders.now c.args.edge in
    some_of test 1536 _ (cases_from_any _ _ _ (λ k. test k ≡ true) (λ k. test k ≡ false) c.any.ensures.ran (YieldsList-from_range 0 1536 1536 refl refl) (λ x q k. search (rules, tests)) (λ x q k. search (rules, tests)))
