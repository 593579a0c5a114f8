use Rattle.std.specs.Prelude.{◌+◌, ◌*◌, get_or}
use native.Mathlib.Omega.{arith}
use borrow.Author.Rules.{rules}
use lib.Dec.{eqb}
use Rattle.store_trust.specs.Ramp.{ramp_entry}
use Rattle.store_trust.proofs.Searches.{any_from}
use Rattle.store_trust.proofs.is_repeated.Goals as goal

pub returns : goal.returns
returns c =
    any_from (λ x. eqb (ramp_entry c.args.palettes.now c.args.first c.args.channel c.args.i) (get_or c.args.palettes.now (3 * x + c.args.channel) 0))
    c.args.first c.args.i _ _ (λ x b q k. search rules) (omega arith) (omega arith) c.any.result c.any.ensures.ran
