-- `bc7_ends::ends_of` meets its contract: four stores a turn, of endpoint e. Assumes nothing.
use borrow.Author.Rules.{rules}
use mathlib.Core.Path.{◌≡◌, ◌∙◌, ap}
use mathlib.Core.List.{◌++◌}
use Prim.Native.Nat.{ℕ, ◌+◌, ◌-◌, ◌*◌, ◌<◌}
use native.Mathlib.Omega.{arith}
use lib.Dec.{lit<}
use lib.ListN.{drop, replicate}
use Rattle.laws.specs.Made.{made}
use Rattle.laws.proofs.Rows.{made_none, made_four}
use Rattle.laws.proofs.Limits.{below_zeros, below_store}
use Rattle.bc7_ends.specs.Ends.{end_at}
use Rattle.bc7_ends.proofs.Widening.{narrower, end_byte}
use Rattle.bc7_ends.proofs.ends_of.Goals as goal

pub loop-e-init : goal.loop-e-init
loop-e-init c = (search rules, made_none (end_at _ _ _ _ _ _ _ _) (replicate 24 0), below_zeros 256 (lit< tt) 24)

pub end_at-requires : goal.end_at-requires
end_at-requires c = (search rules, narrower _ c.requires.1 c.loop-e-test.true)

pub end_at-requires-in-loop-e : goal.end_at-requires-in-loop-e
end_at-requires-in-loop-e c = (search rules, narrower _ c.requires.1 c.loop-e-test.true)

pub end_at-requires-in-loop-e-2 : goal.end_at-requires-in-loop-e-2
end_at-requires-in-loop-e-2 c = (search rules, narrower _ c.requires.1 c.loop-e-test.true)

pub end_at-requires-in-loop-e-3 : goal.end_at-requires-in-loop-e-3
end_at-requires-in-loop-e-3 c = (search rules, narrower _ c.requires.2 c.loop-e-test.true)

pub loop-e-preserved : goal.loop-e-preserved
loop-e-preserved c =
    let l = c.loop-e in
    let a = c.args in
    let f = end_at a.r a.g a.b a.a a.w a.wa a.p a.d in
    let byte = end_byte a.r a.g a.b a.a a.w a.wa a.p a.d l.e in
    let none : 4 * l.e + 0 ≡ 4 * l.e = omega arith in
    let x = c.end_at.ensures in
    let y = c.end_at-in-loop-e.ensures in
    let z = c.end_at-in-loop-e-2.ensures in
    let u = c.end_at-in-loop-e-3.ensures in
    let room : 4 * l.e + 3 < 24 = omega arith in (
      search rules,
      made_four f (replicate 24 0) l.ends l.e _ _ _ _ l.invariant.1 (x.0 ∙ byte 0 (lit< tt) ∙ ap f none) (y.0 ∙ byte 1 (lit< tt)) (z.0 ∙ byte 2 (lit< tt)) (u.0 ∙ byte 3 (lit< tt)) room,
      below_store _ _ (below_store _ _ (below_store _ _ (below_store _ _ l.invariant.2 x.1) y.1) z.1) u.1,
    )

pub returns : goal.returns
returns c =
    let l = c.loop-e in
    let a = c.args in
    let n = a.count in
    let f = end_at a.r a.g a.b a.a a.w a.wa a.p a.d in
    let same : 4 * l.e ≡ 4 * n = omega (arith, l.invariant.0, c.loop-e-test.false) in
    record { is = l.invariant.1 ∙ ap (λ (m : ℕ). made f m ++ drop m (replicate 24 0)) same; small = l.invariant.2 }
