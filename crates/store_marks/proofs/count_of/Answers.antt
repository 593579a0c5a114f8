use Rattle.std.proofs.Common.{rules, ◌≡◌, sym, ◌∙◌, ◌==◌}
use Rattle.std.specs.Prelude.{count_by}
use Rattle.laws.proofs.Chains.{count_is}
use Rattle.store_marks.proofs.count_of.Goals as goal

pub returns : goal.returns
returns c = let e : c.count.result ≡ count_by (λ x. x == c.args.mark) c.args.marks.now = search rules in e ∙ sym (count_is c.args.mark c.args.marks.now)
