-- `bc7_weights::weigh_three` meets its contract. Assumes nothing.
use mathlib.Core.Path.{◌≡◌, ap}
use mathlib.Core.List.{[], ◌∷◌}
use Prim.Native.Nat.{zero-le}
use native.Mathlib.Omega.{arith}
use lib.Dec.{lit<}
use Rattle.bcn_util.specs.declared.Indexes.{Indexes}
use Rattle.bc7_weights.proofs.Weighing.{weighed_by}
use Rattle.bc7_weights.proofs.weigh_three.Goals as goal

pub weigh-requires : goal.weigh-requires
weigh-requires c =
    let width : c.new_p3.result.bits ≡ c.args.bits = ap (λ (x : Indexes). x.bits) c.new_p3.ensures in
    (omega (arith, width), omega (arith, width))

pub returns : goal.returns
returns c = weighed_by c.args.bits (0 ∷ c.args.low ∷ c.args.high ∷ []) _ _ _ _ (omega (arith, c.requires.1)) (zero-le, (lit< tt, (c.requires.3, (omega (arith, c.requires.4, c.requires.5), (c.requires.4, (omega (arith, c.requires.5), tt)))))) c.skip.ensures c.new_p3.ensures c.weigh.ensures
