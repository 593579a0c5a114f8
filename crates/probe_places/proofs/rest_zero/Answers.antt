use Rattle.std.proofs.Common.{◌≡◌, ◌∙◌, ap, ℕ, ◌+◌, ◌*◌, get_or, add_assoc, rules, tests, arith}
use Rattle.std.proofs.lemmas.Iterator.{cases_from_all, YieldsList-from_slice}
use Rattle.std.proofs.lemmas.List.Edits.{length-between, get_or-between}
use Rattle.probe_places.proofs.Checks.{rest_is}
use Rattle.probe_places.proofs.rest_zero.Goals as goal

pub returns : goal.returns
returns c =
    let store = c.args.store.now in
    let at = c.args.n * 32 in
    let seen = cases_from_all _ _ _ (λ b. b ≡ 0) (λ b. b ≡ 0 → ⊥) c.all.ensures.ran (YieldsList-from_slice _ cc) (λ x q k. search (rules, tests)) (λ x q k. search (rules, tests)) in
    rest_is store c.args.n _ _ (length-between store (at + 10) (at + 16) (omega arith) ∙ omega arith) (λ k l. get_or-between store (at + 10) (at + 16) k 0 (omega arith) ∙ ap (λ (i : ℕ). get_or store i 0) (add_assoc at 10 k)) seen
