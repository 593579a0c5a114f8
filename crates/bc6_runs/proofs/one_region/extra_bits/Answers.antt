-- `bc6_runs::one_region::extra_bits` meets its contract. Assumes nothing.
use borrow.Author.Rules.{rules}
use mathlib.Core.Path.{◌≡◌, ◌∙◌, refl, sym, ap, ap₂, subst}
use Prim.Native.Nat.{ℕ, suc, ◌+◌, ◌-◌, ◌<◌, ◌^◌}
use native.Mathlib.Numerals.{add-one}
use native.Mathlib.Omega.{arith}
use Rattle.bc6_runs.specs.Threes.{three_of, turned_bit, extra_bits}
use Rattle.bc6_runs.proofs.Threes.{three_sum, extra_fits}
use Rattle.bc6_runs.proofs.one_region.extra_bits.Goals as goal

pub loop-k-init : goal.loop-k-init
loop-k-init c = (search rules, refl)

pub overflow_add-above : goal.overflow_add-above
overflow_add-above c =
    let f : ℕ = c.args.f in
    let k : ℕ = c.loop-k.k in
    let next : c.loop-k.above + c.turned-above.result ≡ three_of (extra_bits f (suc k)) = ap₂ (λ (x y : ℕ). x + y) c.loop-k.invariant.1 c.turned-above.ensures ∙ three_sum (extra_bits f k) (turned_bit f (9 - k)) in
    let less : c.loop-k.above + c.turned-above.result < 2 ^ 64 = subst (λ (x : ℕ). x < 2 ^ 64) (sym next) (extra_fits f (suc k) (omega arith)) in
    record { fits = less }

pub loop-k-preserved : goal.loop-k-preserved
loop-k-preserved c =
    let f : ℕ = c.args.f in
    let k : ℕ = c.loop-k.k in
    let next : c.loop-k.above + c.turned-above.result ≡ three_of (extra_bits f (suc k)) = ap₂ (λ (x y : ℕ). x + y) c.loop-k.invariant.1 c.turned-above.ensures ∙ three_sum (extra_bits f k) (turned_bit f (9 - k)) in
    (search rules, rw add-one next)

pub returns : goal.returns
returns c =
    let k : ℕ = c.loop-k.k in
    let end : c.loop-k.k ≡ c.args.extra = omega arith in
    c.loop-k.invariant.1 ∙ ap (λ (k : ℕ). three_of (extra_bits c.args.f k)) end
