-- `bc7_weights::weigh` meets its contract: one store a turn in each loop. Assumes nothing.
use borrow.Author.Rules.{rules}
use mathlib.Core.Path.{◌≡◌, ◌∙◌, refl, ap}
use mathlib.Core.List.{◌++◌}
use Prim.Native.Nat.{ℕ, ◌+◌, ◌-◌, ◌<◌, ◌≤◌}
use native.Mathlib.Omega.{arith}
use lib.Dec.{lit<, lit≤}
use lib.ListN.{drop, replicate}
use Rattle.laws.specs.Made.{made}
use Rattle.laws.proofs.Rows.{made_none, made_store, made_upto, made_all, made-same}
use Rattle.laws.proofs.Limits.{below_zeros, below_store}
use Rattle.bc7_spec.specs.Bytes.{weight_of}
use Rattle.bc7_weights.proofs.Weighing.{side, side_low, side_high, side_is}
use Rattle.bc7_weights.proofs.weigh.Goals as goal

pub loop-k-init : goal.loop-k-init
loop-k-init c = (search rules, made_none (side _ _ _) (replicate 16 0), below_zeros 65 (lit< tt) 16)

pub weight-requires : goal.weight-requires
weight-requires c = (search rules, search rules, c.index_at.ensures.1)

pub loop-k-preserved : goal.loop-k-preserved
loop-k-preserved c =
    let l = c.loop-k in
    let b = c.args.x.bits in
    let e = c.weight.ensures.0 ∙ ap (weight_of b) c.index_at.ensures.0 ∙ side_low b _ _ l.k c.loop-k-test.true in
    (search rules, made_store (side b _ _) (replicate 16 0) l.weights _ l.k _ l.invariant.1 refl e (omega arith), below_store l.k _ l.invariant.2 c.weight.ensures.1)

pub loop-k-2-init : goal.loop-k-2-init
loop-k-2-init c =
    let l = c.loop-k in
    (search rules, made_upto (side _ _ _) (replicate 16 0) l.weights 8 l.k l.invariant.1 l.invariant.0 c.loop-k-test.false, l.invariant.2)

pub weight-requires-in-loop-k-2 : goal.weight-requires-in-loop-k-2
weight-requires-in-loop-k-2 c = (search rules, search rules, c.index_at-in-loop-k-2.ensures.1)

pub loop-k-2-preserved : goal.loop-k-2-preserved
loop-k-2-preserved c =
    let l = c.loop-k-2 in
    let b = c.args.x.bits in
    let f = side b c.eight-low.result c.eight-high.result in
    let e = c.weight-in-loop-k-2.ensures.0 ∙ ap (weight_of b) c.index_at-in-loop-k-2.ensures.0 ∙ side_high b c.eight-low.result c.eight-high.result l.k in
    let q : l.k + 8 + 1 ≡ l.k + 1 + 8 = omega arith in
    let m = made_store f (replicate 16 0) l.weights _ (l.k + 8) _ l.invariant.1 refl e (omega arith) in
    (search rules, m ∙ ap (λ (n : ℕ). made f n ++ drop n (replicate 16 0)) q, below_store (l.k + 8) _ l.invariant.2 c.weight-in-loop-k-2.ensures.1)

pub returns : goal.returns
returns c =
    let l = c.loop-k-2 in
    let x = c.args.x in
    record {
      is =
          made_all (side x.bits _ _) (replicate 16 0) l.weights 16 (l.k + 8) l.invariant.1 (omega (arith, l.invariant.0)) (omega (arith, c.loop-k-2-test.false)) (lit≤ tt)
          ∙ made-same _ _ 16 (λ k h. side_is x _ _ k c.eight-low.ensures c.eight-high.ensures h);
      small = l.invariant.2;
    }
